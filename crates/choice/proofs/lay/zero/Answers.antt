use Prim.Native.Nat.{ℕ, ◌+◌, ◌≤◌}
use native.Mathlib.Omega.{arith}
use mathlib.Core.Path.{◌≡◌, sym, ap, ◌∙◌}
use mathlib.Core.List.{List, ◌++◌, append_assoc}
use borrow.Rule.Slice.PartMut.{put_mid}
use lib.ListN.{length, take, drop, replicate, length-drop, length-replicate}
use lib.Seq.{sets, sets-eq, drop-drop, length-take-le}
use Rattle.choice.proofs.lay.zero.Goals as goal

-- a part of zeros, in its place
zeros : (to z : List ℕ) (at k : ℕ) → at + k ≤ length to → z ≡ replicate (length (take k (drop at to))) 0 → put_mid at k to z ≡ sets to at (replicate k 0)
zeros to z at k h e =
    let n : length (take k (drop at to)) ≡ k = length-take-le k (drop at to) (omega (arith, length-drop at to)) in
    let r : length (replicate {A = ℕ} k 0) ≡ k = length-replicate k 0 in
    ap (λ (y : List ℕ). take at to ++ (y ++ drop k (drop at to))) (e ∙ ap (λ (m : ℕ). replicate m 0) n)
    ∙ ap (λ (l : List ℕ). take at to ++ (replicate k 0 ++ l)) (drop-drop k at to ∙ ap (λ (m : ℕ). drop (at + m) to) (sym r))
    ∙ sym (sets-eq (replicate k 0) to at (omega arith) ∙ append_assoc (take at to) (replicate k 0) (drop (at + length (replicate {A = ℕ} k 0)) to))

pub returns : goal.returns
returns c = zeros c.args.to.now c.fill.new.self c.args.at _ (omega arith) (c.fill.ensures.after (λ y h. h))
