-- Of the numbers of a listed unit, that whose first cell is the cell of x can alone be x's own, or agree with x. Assumes nothing.
use Prim.Native.Nat.{ℕ, zero, suc, ◌+◌, ◌*◌, ◌%◌, ◌^◌, ◌≤◌, ◌<◌}
use native.Mathlib.Nat.{suc_inj}
use native.Mathlib.Omega.{arith}
use mathlib.Core.Path.{◌≡◌, refl, sym, ap, ap₂, ◌∙◌}
use mathlib.Core.Bool.{Bool, true, false}
use mathlib.Core.List.{map}
use borrow.Author.Tests.{eqb-true, eqb-false, eq-eqb}
use lib.Dec.{eqb}
use lib.ListN.{length, get_or, length-map}
use Rattle.lists.specs.First.{has}
use Rattle.lists.proofs.Tests.{true_iff}
use Rattle.lists.proofs.Entries.Joined.{in_at}
use Rattle.lists.proofs.Entries.Members.{get_d_in, get_d_map}
use Rattle.lists.proofs.Finding.Has.{has_in, in_has}
use Rattle.lists.proofs.Finding.Equals.{equal_first, equal_none}
use Rattle.vectors.specs.Variable.{number_of, row_of, column_of}
use Rattle.vectors.proofs.Variables.Numbers.{number_split, parts, row_lt}
use Rattle.record.specs.declared.Record.{Record}
use Rattle.record.specs.Record.{kinds_in}
use Rattle.record.specs.Tables.{Tables}
use Rattle.record.specs.Leads.{word_in, cell_in}
use Rattle.record.specs.Holds.{index_of}
use Rattle.record.proofs.Soundness.{sound_says}
use Rattle.recover.specs.Every.{listed, list_in}
use Rattle.recover.proofs.Every.{listed_length, listed_entry, listed_sound}
use Rattle.add.specs.Inner.Seats.{seat_of, NumberAt}
use Rattle.add.specs.Inner.Checks.{own_in, alike_in}
use Rattle.add.proofs.Refusing.{own_none, own_same, own_other, alike_none, alike_some}

module _ (u : Record) (t : Tables) (x : ℕ) (L : listed u t ≡ true) where
  abbrev v : ℕ → ℕ
  v j = get_or (list_in u t) j 0

  rows_in : u.n1 ≤ length (kinds_in u)
  rows_in = (sound_says u t (listed_sound u t L)).rows_in

  -- the number of a vector is its row and its column
  split : (y : ℕ) → number_of (kinds_in u) y ≡ row_of u.n1 (kinds_in u) y + 2 ^ u.n1 * column_of u.n1 (kinds_in u) y
  split y = number_split (kinds_in u) u.n1 y rows_in

  module _ (i : ℕ) (N : NumberAt u t (cell_in u t x) i) where
    -- a vector that leads to the cell has the number
    leads : (j : ℕ) → j < u.k → cell_in u t (v j) ≡ cell_in u t x → i ≡ suc j
    leads j h e = N.only (suc j) (omega arith) (omega arith) ((listed_entry u t L j h).first ∙ ap suc e)

    -- the number's vector leads there
    there : (j : ℕ) → i ≡ suc j → (j < u.k) × (cell_in u t (v j) ≡ cell_in u t x)
    there j e =
        let p = N.some (omega arith) in
        let h : j < u.k = omega (arith, p.0) in
        let q : suc (cell_in u t (v j)) ≡ suc (cell_in u t x) = sym (listed_entry u t L j h).first ∙ rw e at p.1 in
        (h, suc_inj q)

    own_first : (j : ℕ) → i ≡ suc j → x < 2 ^ u.n → get_or t.aux i 0 ≡ word_in u x → index_of (list_in u t) x ≡ i
    own_first j e b w =
        let p = there j e in
        let o = listed_entry u t L j p.0 in
        let z : x ≡ v j = o.only x b (sym w ∙ ap (λ (n : ℕ). get_or t.aux n 0) e) (sym p.1) in
        equal_first (list_in u t) x j
        (record {
          below = omega (arith, listed_length u t L);
          equal = sym z;
          first = λ a l q. let r : i ≡ suc a = leads a (omega (arith, p.0)) (ap (cell_in u t) q) in omega arith;
        })
        ∙ sym e

    own_never : ((j : ℕ) → i ≡ suc j → get_or t.aux i 0 ≡ word_in u x → ⊥) → index_of (list_in u t) x ≡ 0
    own_never n =
        equal_none (list_in u t) x
        (λ j h q.
        let l : j < u.k = omega (arith, listed_length u t L) in
        let e : i ≡ suc j = leads j l (ap (cell_in u t) q) in
        n j e (ap (λ (m : ℕ). get_or t.aux m 0) e ∙ sym (listed_entry u t L j l).word_is ∙ ap (word_in u) q))

    -- the number of x, if it is registered
    pub own_is : x < 2 ^ u.n → index_of (list_in u t) x ≡ own_in t.aux (word_in u x) i
    own_is b = go i refl
      where
        go : (m : ℕ) → i ≡ m → index_of (list_in u t) x ≡ own_in t.aux (word_in u x) i
        go zero e = own_never (λ j f w. absurd (omega arith)) ∙ own_none t.aux (word_in u x) i e
        go (suc j) e = same (eqb (get_or t.aux i 0) (word_in u x)) refl
          where
            same : (c : Bool) → eqb (get_or t.aux i 0) (word_in u x) ≡ c → index_of (list_in u t) x ≡ own_in t.aux (word_in u x) i
            same true q = let w = eqb-true _ _ q in own_first j e b w ∙ own_same t.aux (word_in u x) i (λ z. omega arith) w
            same false q = let w = eqb-false _ _ q in own_never (λ a f r. w r) ∙ own_other t.aux (word_in u x) i (λ z. omega arith) w

    -- ---- a vector that agrees with x on every variable

    abbrev Agrees : Bool
    Agrees = has (number_of (kinds_in u) x) (map (number_of (kinds_in u)) (list_in u t))

    row_of_lem : (j : ℕ) → j < u.k → row_of u.n1 (kinds_in u) (v j) ≡ get_or t.aux (suc j) 0 % 2 ^ u.n1
    row_of_lem j h = (listed_entry u t L j h).row_is

    agrees_alike : Agrees ≡ true → alike_in (seat_of u t.h x) t.aux i ≡ true
    agrees_alike a =
        let m = in_at _ (map (number_of (kinds_in u)) (list_in u t)) 0 (has_in _ _ a) in
        let j : ℕ = m.0 in
        let h : j < u.k = omega (arith, m.1, length-map (list_in u t) (number_of (kinds_in u)), listed_length u t L) in
        let q : number_of (kinds_in u) (v j) ≡ number_of (kinds_in u) x =
        sym (get_d_map (number_of (kinds_in u)) (list_in u t) j 0 0 (omega (arith, listed_length u t L))) ∙ m.2 in
        let p =
        parts (2 ^ u.n1) _ _ _ _ (row_lt u.n1 (kinds_in u) (v j) rows_in) (row_lt u.n1 (kinds_in u) x rows_in) (sym (split (v j)) ∙ q ∙ split x) in
        let e : i ≡ suc j = leads j h (ap₂ (λ (r c : ℕ). get_or t.h r 0 + c) p.0 p.1) in
        sym (alike_some (seat_of u t.h x) t.aux i (λ z. omega arith)) ∙ eq-eqb _ _ (ap (λ (n : ℕ). get_or t.aux n 0 % 2 ^ u.n1) e ∙ sym (row_of_lem j h) ∙ p.0)

    alike_agrees : (m : ℕ) → i ≡ m → alike_in (seat_of u t.h x) t.aux i ≡ true → Agrees ≡ true
    alike_agrees zero e a =
        let z : true ≡ false = sym a ∙ sym (alike_none (seat_of u t.h x) t.aux i e) in
        absurd (let w : ◌≡◌ {A = ℕ} 0 1 = cc in omega arith)
    alike_agrees (suc j) e a =
        let p = there j e in
        let h = p.0 in
        let r : row_of u.n1 (kinds_in u) (v j) ≡ row_of u.n1 (kinds_in u) x =
        row_of_lem j h ∙ ap (λ (n : ℕ). get_or t.aux n 0 % 2 ^ u.n1) (sym e) ∙ eqb-true _ _ (alike_some (seat_of u t.h x) t.aux i (λ z. omega arith) ∙ a) in
        let c : column_of u.n1 (kinds_in u) (v j) ≡ column_of u.n1 (kinds_in u) x = omega (arith, p.1, ap (λ (n : ℕ). get_or t.h n 0) r) in
        let q : number_of (kinds_in u) (v j) ≡ number_of (kinds_in u) x = split (v j) ∙ ap₂ (λ (a b : ℕ). a + 2 ^ u.n1 * b) r c ∙ sym (split x) in
        let l : j < length (list_in u t) = omega (arith, listed_length u t L) in
        let g = get_d_map (number_of (kinds_in u)) (list_in u t) j 0 0 l ∙ q in
        in_has _ _ (rw g at (get_d_in (map (number_of (kinds_in u)) (list_in u t)) j 0 (omega (arith, length-map (list_in u t) (number_of (kinds_in u))))))

    -- whether one agrees with x
    pub alike_is : Agrees ≡ alike_in (seat_of u t.h x) t.aux i
    alike_is = true_iff _ _ agrees_alike (alike_agrees i refl)
