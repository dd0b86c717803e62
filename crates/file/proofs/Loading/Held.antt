-- A unit that holds a list holds it when it was written and read. Assumes nothing.
use mathlib.Core.Path.{◌≡◌, sym, ap, ◌∙◌}
use mathlib.Core.Bool.{true}
use mathlib.Core.List.{List}
use Prim.Native.Nat.{ℕ, suc, ◌<◌}
use native.Mathlib.Omega.{arith}
use lib.ListN.{get_or}
use Rattle.record.specs.declared.Record.{Record}
use Rattle.record.specs.Tables.{Tables}
use Rattle.record.specs.Formed.{sound}
use Rattle.record.specs.Leads.{cell_in}
use Rattle.record.specs.Holds.{Holds}
use Rattle.file.specs.File.{file_of}
use Rattle.file.specs.Decode.{record_in, tables_in}
use Rattle.file.specs.Read.{loaded_read, read_of}
use Rattle.file.specs.Facts.{WordsFit, SameUnit, carried_record, carried_tables}
use Rattle.file.proofs.Decoding.Units.{record_read, tables_read}
use Rattle.file.proofs.Decoding.Again.{sound_same, carried_sound}
use Rattle.file.proofs.Decoding.Answers.{in_range, cell_same, word_same, carried_same}
use Rattle.file.proofs.Loading.Accepts.{read_passed, passed_read}
use Rattle.file.proofs.Loading.Again.{h_range, g_range, aux_range, over_long}
use Rattle.file.proofs.Loading.Carried.{same_record}

-- ---- units that are the same hold the same list

module _ (u v : Record) (s t : Tables) (e : SameUnit u s v t) (sv : sound v t ≡ true) (vs : List ℕ) (H : Holds u s vs) where
  cell_at : (i : ℕ) → i < u.cells → get_or s.g i 0 ≡ get_or t.g i 0
  cell_at i h = in_range s.g t.g e.g e.fields.cells h

  cell_is : (x : ℕ) → cell_in u s x ≡ cell_in v t x
  cell_is = cell_same u v s t e H.is_sound sv

  pub same_holds : Holds v t vs
  same_holds =
      let c : u.cells ≡ v.cells = e.fields.cells in
      record {
        is_sound = sv;
        vectors = sym e.fields.k ∙ H.vectors;
        within = λ i h. rw e.fields.n at (H.within i h);
        words = λ i h.
            sym (in_range s.aux t.aux e.aux (ap suc e.fields.k) (omega (arith, H.vectors)))
            ∙ H.words i h ∙ word_same u v s t e H.is_sound sv (get_or vs i 0);
        lies = λ i h.
            let l = H.lies i h in
            rw (← cell_is (get_or vs i 0)) (omega (arith, l.0), sym (cell_at _ l.0) ∙ l.1);
        leads = λ cell l n.
            let b : cell < u.cells = omega arith in
            let p = H.leads cell b (λ z. n (sym (cell_at cell b) ∙ z)) in
            record { entry = p.entry; listed = p.listed; holds = sym (cell_at cell b) ∙ p.holds; there = sym (cell_is _) ∙ p.there };
      }

-- ---- written and read

module _ (u : Record) (s : Tables) (vs : List ℕ) (H : Holds u s vs) (fit : WordsFit u s) (t : Tables) (z : (read_of (file_of u s) t).refusal ≡ 0) where
  abbrev file : List ℕ
  file = file_of u s

  abbrev unit : Record
  unit = record_in file

  abbrev words : Tables
  words = tables_in unit file

  read_is : read_of file t ≡ loaded_read unit words t
  read_is = passed_read file t (read_passed file t z)

  words_hold : Holds unit words vs
  words_hold =
      rw (tables_read u s H.is_sound, record_read u s H.is_sound)
      (same_holds u (carried_record u) s (carried_tables u s) (carried_same u s H.is_sound fit) (carried_sound u s H.is_sound) vs H)

  pub read_holds : Holds (read_of file t).unit (read_of file t).tables vs
  read_holds =
      let e : SameUnit unit words unit (loaded_read unit words t).tables =
      record { fields = same_record unit; h = sym (h_range unit file t); g = sym (g_range unit file t); aux = sym (aux_range unit file t) } in
      rw read_is
      (same_holds unit unit words (loaded_read unit words t).tables e
      (sound_same unit unit (same_record unit) words (loaded_read unit words t).tables words_hold.is_sound (over_long unit file t)) vs words_hold)

  pub read_record : (read_of file t).unit ≡ carried_record u
  read_record = rw read_is (record_read u s H.is_sound)
