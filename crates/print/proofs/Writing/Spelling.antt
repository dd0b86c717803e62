-- A number written with its last digit first. Assumes nothing.
use Prim.Native.Nat.{ℕ, suc, ◌+◌, ◌-◌, ◌/◌, ◌%◌, ◌≤◌, ◌<◌}
use native.Mathlib.Omega.{arith}
use mathlib.Core.Path.{◌≡◌, refl, sym, ap, ap₂, ◌∙◌}
use mathlib.Core.Bool.{Bool, true, false}
use mathlib.Core.List.{List, [], ◌∷◌, ◌++◌, append-nil, append_assoc}
use borrow.Author.Tests.{leb-true, leb-false}
use lib.Dec.{leb}
use lib.ListN.{length, set, length-append}
use Rattle.print.specs.Decimal.{decimal}
use Rattle.print.specs.Inner.Written.{put_at}
use Rattle.print.proofs.Decimals.Digits.{decimal_one, decimal_more, length_one, length_more, length_pos}
use Rattle.print.proofs.Writing.Puts.{put_nil, put_front, length_put}

-- the digits from i on are written, and those of the rest go before them
pub record Spelling (old : List ℕ) (at n : ℕ) (out : List ℕ) (i rest : ℕ) : Type 0 where
  pub done : List ℕ
  pub is : out ≡ put_at old i done
  pub place : i + length done ≡ at + length (decimal n)
  pub room : at + length (decimal n) ≤ length old
  pub more : at < i → decimal n ≡ decimal rest ++ done
  pub all : i ≤ at → decimal n ≡ done

module _ {old : List ℕ} {at n : ℕ} where
  pub spelling_none : {i : ℕ} → i ≡ at + length (decimal n) → at + length (decimal n) ≤ length old → Spelling old at n old i n
  spelling_none {i} e h =
      record {
        done = [];
        is = sym (put_nil old i);
        place = omega arith;
        room = h;
        more = λ _. sym (append-nil (decimal n));
        all = λ l. absurd (omega (arith, length_pos n));
      }

  module _ {out : List ℕ} {i rest : ℕ} (s : Spelling old at n out i rest) where
    pub spelling_end : i ≤ at → out ≡ put_at old at (decimal n)
    spelling_end h =
        let e : decimal n ≡ s.done = s.all h in
        let j : i ≡ at = omega (arith, s.place, ap length e) in
        s.is ∙ ap₂ (put_at old) j (sym e)

    module _ (h : at < i) where
      before : suc (i - 1) ≡ i
      before = omega arith

      size : length out ≡ length old
      size = ap length s.is ∙ length_put old i s.done (omega (arith, s.place, s.room))

      place_is : i ≡ at + length (decimal rest)
      place_is = omega (arith, ap length (s.more h) ∙ length-append (decimal rest) s.done, s.place)

      pub spelling_in : i - 1 < length out
      spelling_in = omega (arith, size, s.place, s.room)

      pub spelling_more : Spelling old at n (set out (i - 1) (48 + rest % 10)) (i - 1) (rest / 10)
      spelling_more =
          record {
            done = (48 + rest % 10) ∷ s.done;
            is = rw s.is (ap (λ (j : ℕ). set (put_at old j s.done) (i - 1) (48 + rest % 10)) (sym before) ∙ put_front old (i - 1) (48 + rest % 10) s.done (omega (arith, spelling_in, size)));
            place = omega (arith, s.place);
            room = s.room;
            more = λ l. split ∙ ap (λ (t : List ℕ). t ++ s.done) (decimal_more rest (many (leb rest 9) refl l)) ∙ append_assoc (decimal (rest / 10)) _ s.done;
            all = λ l.
                let m : rest < 10 = one (leb rest 9) refl l in
                let e : rest ≡ rest % 10 = omega arith in
                split ∙ ap (λ (t : List ℕ). t ++ s.done) (decimal_one rest m) ∙ ap (λ (d : ℕ). (48 + d) ∷ s.done) e;
          }
        where
          split : decimal n ≡ decimal rest ++ s.done
          split = s.more h

          -- one digit is left at the place of the text, and more above it
          many : (t : Bool) → leb rest 9 ≡ t → at < i - 1 → 9 < rest
          many true t l = absurd (omega (arith, place_is, length_one rest (omega (arith, leb-true rest 9 t))))
          many false t l = leb-false rest 9 t

          one : (t : Bool) → leb rest 9 ≡ t → i - 1 ≤ at → rest < 10
          one true t l = omega (arith, leb-true rest 9 t)
          one false t l = absurd (omega (arith, place_is, length_more rest (leb-false rest 9 t), length_pos (rest / 10)))
