-- How every file begins; and units with the same file are the same. Assumes nothing.
use mathlib.Core.Path.{◌≡◌, sym, ap, ◌∙◌}
use mathlib.Core.Bool.{true}
use mathlib.Core.List.{List}
use Prim.Native.Nat.{ℕ}
use lib.ListN.{take}
use Rattle.record.specs.declared.Record.{Record}
use Rattle.record.specs.Record.{record_of, kinds_in}
use Rattle.record.specs.Tables.{Tables}
use Rattle.record.specs.Formed.{sound}
use Rattle.record.proofs.Soundness.{Sound, sound_says}
use Rattle.record.proofs.Marks.{kinds_in_lem}
use Rattle.block.specs.Bytes.{little_of}
use Rattle.block.specs.Block.{opening_of}
use Rattle.block.proofs.Reading.Words.{low_whole}
use Rattle.file.specs.File.{rows_in, words_in, file_of}
use Rattle.file.specs.Decode.{record_in, tables_in}
use Rattle.file.specs.Facts.{Begins, WordsFit, SameUnit, carried_record, carried_tables}
use Rattle.file.proofs.Decoding.Fields.{opens}
use Rattle.file.proofs.Decoding.Units.{record_read, tables_read}

pub file_opens : (u : Record) (t : Tables) → Begins (file_of u t)
unfolding file_of opening_of little_of
file_opens u t = ap (take 8) (opens u (take (rows_in u) t.h) (take u.cells t.g) (take (words_in u) t.aux)).is

-- the variables of the record that is read
pub kinds_carried : (u : Record) → kinds_in (carried_record u) ≡ kinds_in u
unfolding record_of
kinds_carried u = kinds_in_lem u.n1 (kinds_in u)

-- words that fit are carried whole
module _ (u : Record) (t : Tables) (f : WordsFit u t) where
  pub h_whole : (carried_tables u t).h ≡ take (rows_in u) t.h
  h_whole = low_whole 2 (take (rows_in u) t.h) f.h

  pub g_whole : (carried_tables u t).g ≡ take u.cells t.g
  g_whole = low_whole 2 (take u.cells t.g) f.g

  pub aux_whole : (carried_tables u t).aux ≡ take (words_in u) t.aux
  aux_whole = low_whole 8 (take (words_in u) t.aux) f.aux

pub same_file : (u v : Record) (s t : Tables) → sound u s ≡ true → sound v t ≡ true → WordsFit u s → WordsFit v t → file_of u s ≡ file_of v t → SameUnit u s v t
unfolding record_of
same_file u v s t hs ht ls lt e =
    let a : Sound u s = sound_says u s hs in
    let b : Sound v t = sound_says v t ht in
    let r : carried_record u ≡ carried_record v = sym (record_read u s hs) ∙ ap record_in e ∙ record_read v t ht in
    let w : carried_tables u s ≡ carried_tables v t = sym (tables_read u s hs) ∙ ap (λ (f : List ℕ). tables_in (record_in f) f) e ∙ tables_read v t ht in
    record {
      fields = record {
        n = ap (λ (x : Record). x.n) r;
        p = sym a.variables ∙ ap (λ (x : Record). x.p) r ∙ b.variables;
        n1 = ap (λ (x : Record). x.n1) r;
        k = ap (λ (x : Record). x.k) r;
        cells = ap (λ (x : Record). x.cells) r;
        tries = ap (λ (x : Record). x.tries) r;
        variables = sym (kinds_carried u) ∙ ap kinds_in r ∙ kinds_carried v;
        mark = ap (λ (x : Record). x.mark) r;
        kept = a.kept_is ∙ ap (λ (x : Record). x.kept) r ∙ sym b.kept_is;
      };
      h = sym (h_whole u s ls) ∙ ap (λ (x : Tables). x.h) w ∙ h_whole v t lt;
      g = sym (g_whole u s ls) ∙ ap (λ (x : Tables). x.g) w ∙ g_whole v t lt;
      aux = sym (aux_whole u s ls) ∙ ap (λ (x : Tables). x.aux) w ∙ aux_whole v t lt;
    }
