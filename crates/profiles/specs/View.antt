-- What it is for bytes to be the profile of a slab, in that slab's own memory (SCOPE 21.8).
use Rattle.std.specs.Prelude.{ℕ, zero, suc, ◌+◌, ◌-◌, ◌*◌, ◌≤◌, ◌≡◌, List, take, drop}
use Rattle.std.specs.Borrow.{Bor}
use Rattle.profiles.specs.declared.Whose.{Whose}
use Rattle.profiles.specs.declared.Whose.TheVariants.{House, Brand}
use Rattle.profiles.specs.Place.{Held}

-- the brand's or the house's
abbrev pub of : {A : Type 0} → Whose → A → A → A
of Brand brand house = brand
of House brand house = house

-- the bytes of a profile: none for the number 0
abbrev pub bytes_of : ℕ → ℕ → ℕ
bytes_of zero size = 0
bytes_of (suc i) size = size

-- r is the profile of a slab with that number, from 1: the slab's bytes from its start on, unaltered, and in the slab's memory, there
pub record PartOf (number size : ℕ) (slab r : Bor (List ℕ)) : Type 0 where
  pub bytes : r.now ≡ take (bytes_of number size) (drop ((number - 1) * size) slab.now)
  pub block : r.ref_ptr.0 ≡ slab.ref_ptr.0
  pub offset : r.ref_ptr.1 ≡ slab.ref_ptr.1 + (number - 1) * size

-- the slab that is named has the profile
abbrev pub Within : Held → ℕ → ℕ → ℕ → ℕ → Type 0
Within at brand brand_size house house_size = at.number * of at.whose brand_size house_size ≤ of at.whose brand house

-- r is the profile that is named
abbrev pub Views : Held → Bor (List ℕ) → ℕ → Bor (List ℕ) → ℕ → Bor (List ℕ) → Type 0
Views at brand brand_size house house_size r = PartOf at.number (of at.whose brand_size house_size) (of at.whose brand house) r
