-- A unit amended by one vector: when it is sound, and when it holds the list with the vector at its end. Assumes nothing.
use Prim.Native.Nat.{ℕ, suc, ◌^◌, ◌<◌}
use native.Mathlib.Omega.{arith}
use mathlib.Core.Path.{◌≡◌, ap, ◌∙◌}
use mathlib.Core.Bool.{true, not, ◌&&◌}
use mathlib.Core.List.{List, [], ◌∷◌, ◌++◌}
use lib.Dec.{leb}
use lib.ListN.{length, get_or, set, length-append, length-set}
use lib.Seq.{get_or-set_same, get_or-set_other}
use borrow.Author.Tests.{lt-ltb, le-ltb, le-leb}
use Rattle.lists.proofs.Tests.{and_true}
use Rattle.vectors.specs.Bounds.{max_inputs, max_vectors, max_cells, outside, too_many}
use Rattle.span.specs.Span.{sound_of}
use Rattle.record.specs.declared.Record.{Record}
use Rattle.record.specs.Record.{kinds_in}
use Rattle.record.specs.Tables.{Tables}
use Rattle.record.specs.Formed.{is_in_bounds, right_inputs, long_enough, well_formed, sound}
use Rattle.record.specs.Inner.Formed.{WellFormed}
use Rattle.record.specs.Leads.{word_in, cell_in}
use Rattle.record.specs.Holds.{Leads, Holds}
use Rattle.record.proofs.Formed.{well_formed_facts}
use Rattle.add.specs.Add.{amended}
use Rattle.add.proofs.Adding.Appended.{each_appended}

-- tables as long as those of a unit, and a word more of AUX
pub record AsLong (u : Record) (t t' : Tables) : Type 0 where
  pub h : length t'.h ≡ length t.h
  pub g : length t'.g ≡ length t.g
  pub aux : suc u.k < length t'.aux

module _ (u : Record) (t t' : Tables) (s : sound u t ≡ true) (few : u.k < max_vectors) (l : AsLong u t t') where
  -- sound with one vector more
  pub amended_sound : sound (amended u) t' ≡ true
  unfolding sound well_formed
  amended_sound =
      let f = and_true (well_formed u t) (sound_of u.n (kinds_in u) u.kept) s in
      let w : WellFormed u t = well_formed_facts u t f.0 in
      let a = and_true (is_in_bounds u && right_inputs u) (long_enough u t) f.0 in
      let i = and_true (is_in_bounds u) (right_inputs u) a.0 in
      let n = not (outside 1 max_inputs u.n) in
      let k = not (outside 1 max_vectors u.k) in
      let c = not (outside 1 max_cells u.cells) in
      let p = leb u.p u.n in
      let b = and_true (n && k && c && p) (not (too_many u.p u.n1)) i.0 in
      let d = and_true (n && k && c) p b.0 in
      let e = and_true (n && k) c d.0 in
      let m = and_true n k e.0 in
      rw (
        m.0,
        le-ltb (suc u.k) 1 (omega arith),
        le-ltb max_vectors (suc u.k) (omega arith),
        e.1,
        d.1,
        b.1,
        i.1,
        le-leb (2 ^ u.n1) (length t'.h) (omega (arith, l.h, w.rows_held)),
        le-leb u.cells (length t'.g) (omega (arith, l.g, w.cells_held)),
        lt-ltb (suc u.k) (length t'.aux) l.aux,
        f.1,
      )

  -- where each vector of the longer list lies in its cell, and each cell that is not empty holds one that leads there
  module _ (vs : List ℕ) (x : ℕ) (H : Holds u t vs) (within : x < 2 ^ u.n) (words : t'.aux ≡ set t.aux (suc u.k) (word_in u x)) where
    abbrev ws : List ℕ
    ws = vs ++ (x ∷ [])

    one_more : suc u.k ≡ length ws
    one_more = omega (arith, H.vectors, length-append vs (x ∷ []))

    word_at : (i : ℕ) → i < length ws → get_or t'.aux (suc i) 0 ≡ word_in u (get_or ws i 0)
    word_at =
        each_appended (λ i v. get_or t'.aux (suc i) 0 ≡ word_in u v) vs x
        (λ i h. ap (λ (a : List ℕ). get_or a (suc i) 0) words ∙ get_or-set_other t.aux (suc u.k) (suc i) (word_in u x) 0 (λ e. omega (arith, H.vectors)) ∙ H.words i h)
        (ap (λ (a : List ℕ). get_or a (suc (length vs)) 0) words
        ∙ rw H.vectors (get_or-set_same t.aux (suc (length vs)) (word_in u x) 0 (omega (arith, l.aux, ap length words, length-set t.aux (suc u.k) (word_in u x), H.vectors))))

    pub amended_holds : ((i : ℕ) → i < length ws → (cell_in u t' (get_or ws i 0) < u.cells) × (get_or t'.g (cell_in u t' (get_or ws i 0)) 0 ≡ suc i))
        → ((cell : ℕ) → cell < u.cells → (get_or t'.g cell 0 ≡ 0 → ⊥) → Leads (amended u) t' ws cell)
        → Holds (amended u) t' ws
    amended_holds lies leads =
        record {
          is_sound = amended_sound;
          vectors = one_more;
          within = each_appended (λ i v. v < 2 ^ u.n) vs x H.within within;
          words = word_at;
          lies = lies;
          leads = leads;
        }
