-- The loop over the words: i of them are in the chains, and no two of those are equal. Assumes nothing.
use Prim.Native.Nat.{ℕ, suc, ◌+◌, ◌-◌, ◌≤◌, ◌<◌}
use native.Mathlib.Nat.{eq-or-lt_of_le, mod-lt}
use native.Mathlib.Omega.{arith}
use mathlib.Core.Path.{◌≡◌, refl, sym, ap, ◌∙◌}
use mathlib.Core.Bool.{Bool, true, false}
use mathlib.Core.List.{List}
use mathlib.Core.Logic.{⊎_elim}
use lib.Dec.{eqb}
use lib.ListN.{length, get_or, take, set, replicate, length-set, length-replicate, get_or-replicate}
use lib.Seq.{length-take-le, get_or-take, get_or-set_same, get_or-set_other}
use borrow.Author.Tests.{eqb-true, eqb-false}
use Rattle.lists.proofs.Finding.Repeats.{repeated_none, repeated_at}
use Rattle.vectors.specs.Bounds.{max_vectors}
use Rattle.repeats.specs.Repeats.{repeated_in}
use Rattle.repeats.specs.Chains.{slots, slot_of, Latest, Linked, Seen}
use Rattle.repeats.proofs.Limit.{few}

slot_below : (x : ℕ) → slot_of x < slots
unfolding slot_of
slot_below x = mod-lt _ (omega arith)

-- one word more, in another slot
latest_more : (words : List ℕ) (n k s : ℕ) → (slot_of (get_or words n 0) ≡ s → ⊥) → Latest words n k s → Latest words (n + 1) k s
latest_more words n k s o l =
    record {
      within = omega (arith, l.within);
      here = l.here;
      after = λ m a b e. let q : m ≤ n = omega arith in ⊎_elim (λ p. let r : m ≡ n = p in o (rw r at e)) (λ p. l.after m a p e) (eq-or-lt_of_le q);
    }

-- one word more, in the slot
latest_here : (words : List ℕ) (n s : ℕ) → slot_of (get_or words n 0) ≡ s → Latest words (n + 1) (n + 1) s
latest_here words n s e =
    let q : n + 1 - 1 ≡ n = omega arith in
    record { within = omega arith; here = λ p. rw q e; after = λ m a b p. omega arith }

latest_none : (words : List ℕ) (s : ℕ) → Latest words 0 0 s
latest_none words s = record { within = omega arith; here = λ p. absurd (omega arith); after = λ m a b e. omega arith }

-- of the first i words alone
latest_front : (words : List ℕ) (i n k s : ℕ) → n ≤ i → Latest words n k s → Latest (take i words) n k s
latest_front words i n k s h l =
    record {
      within = l.within;
      here = λ p. rw (get_or-take i words (k - 1) 0 (omega (arith, l.within))) (l.here p);
      after = λ m a b e. l.after m a b (rw (get_or-take i words m 0 (omega arith)) at e);
    }

pub record Chaining (words heads next : List ℕ) (i : ℕ) : Type 0 where
  pub within : i ≤ length words
  pub wide : length heads ≡ slots
  pub long : length next ≡ max_vectors + 1
  pub latest : (s : ℕ) → s < slots → Latest words i (get_or heads s 0) s
  pub linked : Linked words next i
  pub fresh : (a b : ℕ) → a < b → b < i → get_or words a 0 ≡ get_or words b 0 → ⊥

pub chaining_none : (words : List ℕ) → Chaining words (replicate slots 0) (replicate (max_vectors + 1) 0) 0
chaining_none words =
    record {
      within = omega arith;
      wide = length-replicate {A = ℕ} slots 0;
      long = length-replicate {A = ℕ} (max_vectors + 1) 0;
      latest = λ s h. rw (get_or-replicate {A = ℕ} slots s 0 0 h) (latest_none words s);
      linked = λ m h. absurd (omega arith);
      fresh = λ a b h k. absurd (omega arith);
    }

module _ {words heads next : List ℕ} {i : ℕ} (fits : length words ≤ max_vectors) (c : Chaining words heads next i) where
  pub chaining_end : length words ≤ i → 0 ≡ repeated_in words
  chaining_end h = sym (few words fits ∙ repeated_none words (λ a b p q. c.fresh a b p (omega arith)))

  pub chaining_front : length (take i words) ≡ i
  chaining_front = length-take-le i words c.within

  -- what a walk starts with
  pub chaining_linked : Linked (take i words) next (length (take i words))
  chaining_linked m h =
      let l : m < i = rw chaining_front at h in
      rw (get_or-take i words m 0 l) (latest_front words i m _ _ (omega arith) (c.linked m l))

  pub chaining_latest : (s x : ℕ) → s ≡ slot_of x → Latest (take i words) (length (take i words)) (get_or heads s 0) (slot_of x)
  chaining_latest s x e = rw (e, chaining_front) (latest_front words i i _ _ (omega arith) (c.latest (slot_of x) (slot_below x)))

  module _ (h : i < length words) where
    pub chaining_here : Seen (take i words) (get_or words i 0) true → suc i ≡ repeated_in words
    chaining_here s =
        let f = s.found refl in
        let l : f.0 < i = rw chaining_front at f.1 in
        sym (few words fits ∙ repeated_at words f.0 i l h (sym (get_or-take i words f.0 0 l) ∙ f.2) (λ b d p q. c.fresh b d p q))

    latest_next : (s : ℕ) → s ≡ slot_of (get_or words i 0) → (t : ℕ) → t < slots → Latest words (i + 1) (get_or (set heads s (i + 1)) t 0) t
    latest_next s e t l = go (eqb t s) refl
      where
        go : (b : Bool) → eqb t s ≡ b → Latest words (i + 1) (get_or (set heads s (i + 1)) t 0) t
        go true p =
            let q : t ≡ s = eqb-true t s p in
            rw (q, get_or-set_same heads s (i + 1) 0 (omega (arith, c.wide))) (latest_here words i s (sym e))
        go false p =
            let n = eqb-false t s p in
            rw (get_or-set_other heads s t (i + 1) 0 n) (latest_more words i _ t (λ q. n (sym q ∙ sym e)) (c.latest t l))

    linked_next : (s : ℕ) → s ≡ slot_of (get_or words i 0) → Linked words (set next i (get_or heads s 0)) (i + 1)
    linked_next s e m l = let q : m ≤ i = omega arith in ⊎_elim here before (eq-or-lt_of_le q)
      where
        here : m ≡ i → Latest words m (get_or (set next i (get_or heads s 0)) m 0) (slot_of (get_or words m 0))
        here p =
            rw (p, get_or-set_same next i (get_or heads s 0) 0 (omega (arith, c.long)), ← e)
            (c.latest s (rw e (slot_below (get_or words i 0))))

        before : m < i → Latest words m (get_or (set next i (get_or heads s 0)) m 0) (slot_of (get_or words m 0))
        before p = rw (get_or-set_other next i m (get_or heads s 0) 0 (λ q. omega arith)) (c.linked m p)

    pub chaining_on : (s : ℕ) → s ≡ slot_of (get_or words i 0) → Seen (take i words) (get_or words i 0) false
        → Chaining words (set heads s (i + 1)) (set next i (get_or heads s 0)) (i + 1)
    chaining_on s e n =
        record {
          within = omega arith;
          wide = length-set heads s _ ∙ c.wide;
          long = length-set next i _ ∙ c.long;
          latest = latest_next s e;
          linked = linked_next s e;
          fresh = λ a b p q. let r : b ≤ i = omega arith in ⊎_elim (last a b p) (λ t. c.fresh a b p t) (eq-or-lt_of_le r);
        }
      where
        last : (a b : ℕ) → a < b → b ≡ i → get_or words a 0 ≡ get_or words b 0 → ⊥
        last a b p t g =
            let l : a < i = omega arith in
            n.none refl a (rw chaining_front l) (get_or-take i words a 0 l ∙ g ∙ ap (λ (z : ℕ). get_or words z 0) t)
