-- First fit: the displacement it finds, and what it means that it finds none. Assumes nothing.
use Prim.Native.Nat.{ℕ, zero, suc, ◌+◌, ◌≤◌, ◌<◌}
use native.Mathlib.Nat.{eq-or-lt_of_le, suc_inj}
use native.Mathlib.Omega.{arith}
use mathlib.Core.Path.{◌≡◌, refl, sym, ◌∙◌}
use mathlib.Core.Bool.{Bool, true, false, ◌&&◌, true≢false}
use mathlib.Core.List.{List, [], ◌∷◌}
use mathlib.Core.Logic.{◌⊎◌, inl, inr, ⊎_elim}
use lib.Dec.{ltb}
use lib.ListN.{length}
use borrow.Author.Tests.{ltb-true, lt-ltb, le-ltb}
use Rattle.lists.proofs.Tests.{and_true, le_or_lt}
use Rattle.rows.specs.Care.{Care}
use Rattle.rows.specs.Fit.{cell_of, inside, clear, fits_at, needed, fit_from, first_fit, Fit, At, None}

-- ---- the tests

-- what is inside at a displacement is so at every smaller one
pub inside_less : (cells d e : ℕ) (m : List Care) → e ≤ d → inside cells d m ≡ true → inside cells e m ≡ true
unfolding inside
inside_less cells d e [] l h = refl
inside_less cells d e (c ∷ m) l h =
    let p = and_true (ltb (cell_of c d) cells) (inside cells d m) h in
    let b : cell_of c e < cells = omega (arith, ltb-true (cell_of c d) cells p.0) in
    rw (lt-ltb (cell_of c e) cells b) (inside_less cells d e m l p.1)

-- an occupied row is not inside at the number of cells
pub inside_end : (cells d : ℕ) (c : Care) (m : List Care) → cells ≤ d → inside cells d (c ∷ m) ≡ false
unfolding inside
inside_end cells d c m l = let b : cells ≤ cell_of c d = omega arith in rw (le-ltb (cell_of c d) cells b)

-- an occupied row that is inside has a displacement below the number of cells
inside_low : (cells d : ℕ) (m : List Care) → 0 < length m → inside cells d m ≡ true → d < cells
unfolding inside
inside_low cells d [] l h = absurd (omega arith)
inside_low cells d (c ∷ m) l h = omega (arith, ltb-true (cell_of c d) cells (and_true (ltb (cell_of c d) cells) (inside cells d m) h).0)

-- what fits is inside, and its cells are free
pub fits_in : (g : List ℕ) (d : ℕ) (m : List Care) → fits_at g d m ≡ true → (inside (length g) d m ≡ true) × (clear g d m ≡ true)
unfolding fits_at
fits_in g d m h = and_true (inside (length g) d m) (clear g d m) h

pub fits_out : (g : List ℕ) (d : ℕ) (m : List Care) → inside (length g) d m ≡ false → fits_at g d m ≡ false
unfolding fits_at
fits_out g d m h = rw h

pub fits_shut : (g : List ℕ) (d : ℕ) (m : List Care) → clear g d m ≡ false → fits_at g d m ≡ false
unfolding fits_at
fits_shut g d m h = go (inside (length g) d m)
  where
    go : (t : Bool) → (t && clear g d m) ≡ false
    go true = h
    go false = refl

pub fits_is : (g : List ℕ) (d : ℕ) (m : List Care) (t : Bool) → inside (length g) d m ≡ true → clear g d m ≡ t → fits_at g d m ≡ t
unfolding fits_at
fits_is g d m t h e = rw (h, e)

-- ---- the steps of the search

module _ (g : List ℕ) (m : List Care) (f d : ℕ) where
  pub step_out : inside (length g) d m ≡ false → fit_from (suc f) d g m ≡ None d (needed g m)
  unfolding fit_from
  step_out h = rw (h, fit_from)

  pub step_here : inside (length g) d m ≡ true → clear g d m ≡ true → fit_from (suc f) d g m ≡ At d
  unfolding fit_from
  step_here h e = rw (h, e, fit_from)

  pub step_on : inside (length g) d m ≡ true → clear g d m ≡ false → fit_from (suc f) d g m ≡ fit_from f (suc d) g m
  unfolding fit_from
  step_on h e = rw (h, e, fit_from)

-- ---- what the search finds

-- d is the smallest displacement that fits
pub record FirstAt (g : List ℕ) (m : List Care) (d : ℕ) : Type 0 where
  pub fits : fits_at g d m ≡ true
  pub before : (e : ℕ) → e < d → fits_at g e m ≡ false

-- none fits, and those below t are the ones that keep every column inside
pub record NoneFits (g : List ℕ) (m : List Care) (t : ℕ) : Type 0 where
  pub never : (e : ℕ) → fits_at g e m ≡ false
  pub within : (e : ℕ) → e < t → inside (length g) e m ≡ true
  pub beyond : (e : ℕ) → t ≤ e → inside (length g) e m ≡ false

abbrev Answer : List ℕ → List Care → Fit → Type 0
Answer g m (At d) = FirstAt g m d
Answer g m (None t n) = NoneFits g m t × (n ≡ needed g m)

module _ (g : List ℕ) (c : Care) (cs : List Care) where
  abbrev m : List Care
  m = c ∷ cs

  -- those before d are inside and not clear
  abbrev Tried : ℕ → Type 0
  Tried d = (e : ℕ) → e < d → (inside (length g) e m ≡ true) × (clear g e m ≡ false)

  tried_more : (d : ℕ) → Tried d → inside (length g) d m ≡ true → clear g d m ≡ false → Tried (suc d)
  tried_more d tried h k e l = ⊎_elim (λ q. let p : e ≡ d = suc_inj q in rw p (h, k)) (λ q. tried e (omega arith)) (eq-or-lt_of_le l)

  tried_none : (d : ℕ) → Tried d → inside (length g) d m ≡ false → NoneFits g m d
  tried_none d tried h =
      let beyond : (e : ℕ) → d ≤ e → inside (length g) e m ≡ false = λ e l. out e l (inside (length g) e m) refl in
      record {
        never = λ e. ⊎_elim (λ l. fits_out g e m (beyond e l)) (λ l. fits_is g e m false (tried e l).0 (tried e l).1) (le_or_lt d e);
        within = λ e l. (tried e l).0;
        beyond = beyond;
      }
    where
      out : (e : ℕ) → d ≤ e → (t : Bool) → inside (length g) e m ≡ t → inside (length g) e m ≡ false
      out e l true q = absurd (true≢false (sym (inside_less (length g) e d m l q) ∙ h))
      out e l false q = q

  answer : (f d : ℕ) → length g < d + f → Tried d → Answer g m (fit_from f d g m)
  unfolding fit_from
  answer zero d l tried = (tried_none d tried (inside_end (length g) d c cs (omega arith)), refl)
  answer (suc f) d l tried = go (inside (length g) d m) refl (clear g d m) refl (answer f (suc d) (omega arith))
    where
      go : (a : Bool) → inside (length g) d m ≡ a → (b : Bool) → clear g d m ≡ b → (Tried (suc d) → Answer g m (fit_from f (suc d) g m)) → Answer g m (fit_from (suc f) d g m)
      go false h b k i = rw (step_out g m f d h) (tried_none d tried h, refl)
      go true h true k i =
          rw (step_here g m f d h k)
          (record { fits = fits_is g d m true h k; before = λ e l. fits_is g e m false (tried e l).0 (tried e l).1 })
      go true h false k i = rw (step_on g m f d h k) (i (tried_more d tried h k))

  answer_first : Answer g m (first_fit g m)
  unfolding first_fit
  answer_first = answer (suc (length g)) 0 (omega arith) (λ e l. absurd (omega arith))

pub first_empty : (g : List ℕ) → first_fit g [] ≡ At 0
unfolding first_fit inside clear
first_empty g = step_here g [] (length g) 0 refl refl

-- the displacement found is the smallest that fits
pub fit_at : (g : List ℕ) (m : List Care) (d : ℕ) → first_fit g m ≡ At d → FirstAt g m d
unfolding fits_at inside clear
fit_at g [] d h =
    let q : 0 ≡ d = cc (first_empty g) in
    rw (← q) (record { fits = refl; before = λ e l. absurd (omega arith) })
fit_at g (c ∷ cs) d h = rw h at (answer_first g c cs)

-- at the displacement found the row is inside
pub fit_inside : (g : List ℕ) (m : List Care) (d : ℕ) → first_fit g m ≡ At d → inside (length g) d m ≡ true
fit_inside g m d h = (fits_in g d m (fit_at g m d h).fits).0

-- the displacement found of an occupied row is below the number of cells
pub fit_low : (g : List ℕ) (m : List Care) (d : ℕ) → 0 < length m → first_fit g m ≡ At d → d < length g
fit_low g m d l h = inside_low (length g) d m l (fit_inside g m d h)

-- where none is found none fits, those tried are the ones that keep every column inside, and so many cells would do
pub fit_none : (g : List ℕ) (m : List Care) (t n : ℕ) → first_fit g m ≡ None t n → NoneFits g m t × (n ≡ needed g m)
fit_none g [] t n h = let z : ◌≡◌ {A = ℕ} 0 1 = cc (first_empty g) in absurd (omega arith)
fit_none g (c ∷ cs) t n h = rw h at (answer_first g c cs)

-- of an occupied row no more are tried than there are cells
pub none_low : (g : List ℕ) (m : List Care) (t n : ℕ) → 0 < length m → first_fit g m ≡ None t n → t ≤ length g
none_low g m zero n l h = omega arith
none_low g m (suc t) n l h = omega (arith, inside_low (length g) t m l ((fit_none g m (suc t) n h).0.within t (omega arith)))

-- ---- the search finds what is so

clash : (g : List ℕ) (e : ℕ) (m : List Care) → fits_at g e m ≡ true → fits_at g e m ≡ false → ⊥
clash g e m p q = true≢false (sym p ∙ q)

first_same : (g : List ℕ) (m : List Care) (r : Fit) → Answer g m r → (d : ℕ) → FirstAt g m d → r ≡ At d
first_same g m (None t n) a d f = absurd (clash g d m f.fits (a.0.never d))
first_same g m (At e) a d f = go (le_or_lt d e) (le_or_lt e d)
  where
    go : (d ≤ e) ⊎ (e < d) → (e ≤ d) ⊎ (d < e) → At e ≡ At d
    go (inr l) k = absurd (clash g e m a.fits (f.before e l))
    go (inl l) (inr k) = absurd (clash g d m f.fits (a.before d k))
    go (inl l) (inl k) = let q : e ≡ d = omega arith in rw q

-- the smallest displacement that fits
pub fit_is : (g : List ℕ) (m : List Care) (d : ℕ) → 0 < length m → FirstAt g m d → first_fit g m ≡ At d
fit_is g [] d p f = absurd (omega arith)
fit_is g (c ∷ cs) d p f = first_same g (c ∷ cs) (first_fit g (c ∷ cs)) (answer_first g c cs) d f

none_same : (g : List ℕ) (m : List Care) (r : Fit) → Answer g m r → (t : ℕ) → NoneFits g m t → r ≡ None t (needed g m)
none_same g m (At e) a t f = absurd (clash g e m a.fits (f.never e))
none_same g m (None u n) a t f = go (le_or_lt t u) (le_or_lt u t)
  where
    go : (t ≤ u) ⊎ (u < t) → (u ≤ t) ⊎ (t < u) → None u n ≡ None t (needed g m)
    go (inr l) k = absurd (true≢false (sym (f.within u l) ∙ a.0.beyond u (omega arith)))
    go (inl l) (inr k) = absurd (true≢false (sym (a.0.within t k) ∙ f.beyond t (omega arith)))
    go (inl l) (inl k) = let q : u ≡ t = omega arith in rw (q, a.1)

-- none that fits
pub fit_none_is : (g : List ℕ) (m : List Care) (t : ℕ) → 0 < length m → NoneFits g m t → first_fit g m ≡ None t (needed g m)
fit_none_is g [] t p f = absurd (omega arith)
fit_none_is g (c ∷ cs) t p f = none_same g (c ∷ cs) (first_fit g (c ∷ cs)) (answer_first g c cs) t f
