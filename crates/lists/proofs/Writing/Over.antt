-- A list written over from the front: what is done, and after it what stood there before. Assumes nothing.
use Prim.Native.Nat.{ℕ, zero, suc, ◌+◌, ◌-◌, ◌≤◌}
use native.Mathlib.Omega.{arith}
use mathlib.Core.Path.{◌≡◌, refl, sym, ap, ◌∙◌}
use mathlib.Core.List.{List, [], ◌++◌, append_assoc, append-nil}
use lib.ListN.{length, take, drop, replicate, length-append, length-take, length-drop, length-replicate, replicate-append-replicate, take-append-drop}
use lib.Seq.{sets, sets-eq, take_at, drop-drop, drop-append-add}

pub record Over (old done l : List ℕ) : Type 0 where
  pub room : length done ≤ length old
  pub is : l ≡ done ++ drop (length done) old

pub drop_replicate : {A : Type 0} (i n : ℕ) (a : A) → drop i (replicate n a) ≡ replicate (n - i) a
drop_replicate zero n a = let e : n - 0 ≡ n = omega arith in rw e
drop_replicate (suc i) zero a = let e : zero - suc i ≡ zero = omega arith in rw e
drop_replicate (suc i) (suc n) a = let e : suc n - suc i ≡ n - i = omega arith in rw e (drop_replicate i n a)

-- what a list begins with counts as done
pub over_start : (done l : List ℕ) → take (length done) l ≡ done → Over l done l
over_start done l e =
    record {
      room = omega (arith, ap length e, length-take (length done) l);
      is = sym (take-append-drop (length done) l) ∙ ap (λ (x : List ℕ). x ++ drop (length done) l) e;
    }

module _ {old done l : List ℕ} (f : Over old done l) where
  pub over_length : length l ≡ length old
  over_length = ap length f.is ∙ length-append done (drop (length done) old) ∙ omega (arith, length-drop (length done) old, f.room)

  pub over_take : take (length done) l ≡ done
  over_take = rw f.is (take_at done _ (length done) refl)

  pub over_sets : (vs : List ℕ) → length done + length vs ≤ length old → Over old (done ++ vs) (sets l (length done) vs)
  over_sets vs h =
      let s : length (done ++ vs) ≡ length done + length vs = length-append done vs in
      let t : drop (length done + length vs) l ≡ drop (length (done ++ vs)) old = rw (f.is, drop-append-add, drop-drop, s) in
      record { room = omega arith; is = sets-eq vs l (length done) (omega (arith, over_length)) ∙ rw (over_take, t) }

-- zeros that stood there before
over_zeros : {done l : List ℕ} (n z : ℕ) → Over (replicate n 0) done l → length done + z ≤ n → Over (replicate n 0) (done ++ replicate z 0) l
over_zeros {done} {l} n z f h =
    let s : length (done ++ replicate z 0) ≡ length done + z = rw (length-append, length-replicate) in
    let e : z + (n - (length done + z)) ≡ n - length done = omega arith in
    record { room = omega (arith, length-replicate {A = ℕ} n 0); is = f.is ∙ rw (s, append_assoc, drop_replicate, drop_replicate, replicate-append-replicate, e) }

-- what is left to write: rest, from place w on
pub record Filling (old all rest l : List ℕ) (w : ℕ) : Type 0 where
  pub done : List ℕ
  pub joined : done ++ rest ≡ all
  pub over : Over old done l
  pub size : length done ≡ w

pub filling_start : {old done l : List ℕ} (rest : List ℕ) (w : ℕ) → Over old done l → length done ≡ w → Filling old (done ++ rest) rest l w
filling_start {old} {done} {l} rest w f e = record { done = done; joined = refl; over = f; size = e }

pub filling_length : {w : ℕ} {old all rest l : List ℕ} → Filling old all rest l w → length l ≡ length old
filling_length f = over_length f.over

-- a turn that adds nothing
pub filling_same : {w : ℕ} {old all rest l : List ℕ} (rest' : List ℕ) → rest ≡ rest' → Filling old all rest l w → Filling old all rest' l w
filling_same rest' e f = rw e at f

pub filling_end : {w : ℕ} {old all l : List ℕ} → Filling old all [] l w → (take w l ≡ all) × (w ≡ length all)
filling_end {w} {old} {all} {l} f =
    let e : f.done ≡ all = sym (append-nil f.done) ∙ f.joined in
    (rw f.size at (over_take f.over) ∙ e, sym f.size ∙ ap length e)

module _ {w : ℕ} {old all l : List ℕ} (vs rest : List ℕ) (f : Filling old all (vs ++ rest) l w) (h : length all ≤ length old) where
  pub filling_room : w + length vs ≤ length old
  filling_room =
      let s : length all ≡ length f.done + (length vs + length rest) = ap length (sym f.joined) ∙ rw (length-append, length-append) in
      omega (arith, f.size)

  filling_joined : (f.done ++ vs) ++ rest ≡ all
  filling_joined = append_assoc f.done vs rest ∙ f.joined

  filling_size : length (f.done ++ vs) ≡ w + length vs
  filling_size = length-append f.done vs ∙ ap (λ (k : ℕ). k + length vs) f.size

  pub filling_sets : Filling old all rest (sets l w vs) (w + length vs)
  filling_sets =
      record {
        done = f.done ++ vs;
        joined = filling_joined;
        over = rw f.size at (over_sets f.over vs (omega (arith, filling_room, f.size)));
        size = filling_size;
      }

pub filling_zeros : {w : ℕ} {all l : List ℕ} (n z : ℕ) (rest : List ℕ) → Filling (replicate n 0) all (replicate z 0 ++ rest) l w → length all ≤ n
    → Filling (replicate n 0) all rest l (w + z)
filling_zeros {w} {all} {l} n z rest f h =
    let k : length (replicate {A = ℕ} n 0) ≡ n = length-replicate n 0 in
    let r : w + z ≤ length (replicate {A = ℕ} n 0) = rw (length-replicate z) at (filling_room (replicate z 0) rest f (omega arith)) in
    record {
      done = f.done ++ replicate z 0;
      joined = append_assoc f.done (replicate z 0) rest ∙ f.joined;
      over = over_zeros n z f.over (omega (arith, f.size));
      size = rw (length-append, length-replicate, f.size);
    }
