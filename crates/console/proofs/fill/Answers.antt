use Prim.Native.Nat.{ℕ, ◌≤◌}
use native.Mathlib.Omega.{arith}
use mathlib.Core.Path.{sym}
use mathlib.Core.List.{List}
use lib.ListN.{length}
use lib.Seq.{length-take-le}
use Rattle.print.proofs.Pages.Fitting.{fitted_taken, fitted_within}
use Rattle.words.specs.Words.{words_of}
use Rattle.words.proofs.Fits.{words_fits}
use Rattle.console.proofs.fill.Goals as goal

pub returns : goal.returns
returns c =
    let e = c.words.ensures in
    let all : List ℕ = words_of c.args.given.now c.args.text.now in
    let h : length all ≤ length c.args.out.now = omega (arith, words_fits c.args.given.now c.args.text.now, c.requires) in
    let w = fitted_within all c.args.out.now _ _ e h in
    record {
      prefix_len = (w, sym (length-take-le _ _ w));
      out_after = fitted_taken all c.args.out.now _ _ e h;
    }
