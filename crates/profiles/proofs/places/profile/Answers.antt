use mathlib.Core.Path.{sym, subst}
use lib.ListN.{length}
use Rattle.profiles.specs.Place.{Held}
use Rattle.profiles.specs.View.{Within}
use Rattle.profiles.proofs.Placing.{place_within}
use Rattle.profiles.proofs.places.profile.Goals as goal

pub view-requires : goal.view-requires
view-requires c =
    let a = c.args in
    subst (λ (at : Held). Within at (length a.brand_slab.now) a.brand_size (length a.house_slab.now) a.house_size) (sym c.in-Ok.ensures) (place_within _ _ _ _ _ _ _ _ _)
