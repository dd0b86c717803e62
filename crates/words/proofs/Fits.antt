-- Everything written fits the page, so that a target of a page gets it whole. Assumes nothing.
use Prim.Native.Nat.{ℕ, ◌-◌, ◌≤◌}
use native.Mathlib.Omega.{arith}
use mathlib.Core.Path.{◌≡◌, refl, ap}
use mathlib.Core.Bool.{Bool, true, false}
use mathlib.Core.List.{List}
use borrow.Author.Tests.{eqb-true, eqb-false}
use lib.Dec.{eqb}
use lib.ListN.{length, take, drop}
use Rattle.record.specs.declared.Record.{Record}
use Rattle.record.specs.Tables.{Tables}
use Rattle.print.proofs.Pages.Sizes.{refused_low}
use Rattle.print.proofs.Pages.Lengths.{text_low}
use Rattle.file.specs.Read.{Reading, read_of}
use Rattle.file.proofs.Loading.Loaded.{Loaded, read_loaded, read_number}
use Rattle.answer.specs.Make.{roomy}
use Rattle.answer.proofs.Fits.Page.{answer_fits}
use Rattle.pack.proofs.Fits.{pack_fits}
use Rattle.listing.proofs.Fits.{list_fits}
use Rattle.find.proofs.Fits.{find_fits}
use Rattle.amend.proofs.Fits.{amend_fits}
use Rattle.why.proofs.Fits.{why_fits}
use Rattle.keys.proofs.Fits.{keys_fits}
use Rattle.input.specs.Opens.{opens}
use Rattle.words.specs.Words.{page_size, says, pack_word, why_word, cells_word, keys_word, show_word, list_word, find_word, add_word, asks_file, printed_of, of_unit, of_file, words_of}
use Rattle.words.proofs.Writing.{file_refused, file_read, words_none, words_pack, words_why, words_cells, words_keys, words_file, words_other}
use Rattle.cells.proofs.Fits.{cells_fits}

unit_fits : (given : List ℕ) (u : Record) (t : Tables) → Loaded u t → length (of_unit given u t) ≤ page_size
unfolding of_unit printed_of
unit_fits given u t l = adds (opens add_word given) refl
  where
    go : (a : Bool) → says show_word given ≡ a → (b : Bool) → says list_word given ≡ b → length (printed_of given u t) ≤ page_size
    go true p b q =
        rw (p, printed_of)
        (text_low u t l.is_sound record { tries = omega (arith, l.tries); excess = l.excess; h = l.words.h; g = l.words.g; aux = l.words.aux })
    go false p true q = rw (p, q, printed_of) (omega (arith, list_fits u t))
    go false p false q = rw (p, q, printed_of) (omega (arith, find_fits u t (drop (length find_word) given)))

    adds : (a : Bool) → opens add_word given ≡ a → length (of_unit given u t) ≤ page_size
    adds true p = rw (p, of_unit) (omega (arith, amend_fits (drop (length add_word) given) u t))
    adds false p = rw (p, of_unit) (go (says show_word given) refl (says list_word given) refl)

file_fits : (given file : List ℕ) → length (of_file given file) ≤ page_size
file_fits given file = go (eqb r.refusal 0) refl
  where
    r : Reading
    r = read_of file roomy

    go : (q : Bool) → eqb r.refusal 0 ≡ q → length (of_file given file) ≤ page_size
    go true q =
        let z = eqb-true r.refusal 0 q in
        omega (arith, unit_fits given r.unit r.tables (read_loaded file roomy z), ap length (file_read given file r refl z))
    go false q =
        let b = read_number file roomy in
        omega (
          arith,
          refused_low r.refusal r.place (omega (arith, b.0)) (omega (arith, b.1)),
          ap length (file_refused given file r refl (eqb-false r.refusal 0 q)),
        )

-- of all words and texts
pub words_fits : (given text : List ℕ) → length (words_of given text) ≤ page_size
words_fits given text = go (eqb (length given) 0) refl (says pack_word given) refl (says why_word given) refl (says cells_word given) refl (opens keys_word given) refl (asks_file given) refl
  where
    rest : List ℕ
    rest = take (length given - length keys_word) (drop (length keys_word) given)

    go : (a : Bool) → eqb (length given) 0 ≡ a → (b : Bool) → says pack_word given ≡ b → (w : Bool) → says why_word given ≡ w → (d : Bool) → says cells_word given ≡ d
        → (k : Bool) → opens keys_word given ≡ k → (c : Bool) → asks_file given ≡ c → length (words_of given text) ≤ page_size
    go true p b q w v d x k u c r = omega (arith, answer_fits text, ap length (words_none given text (eqb-true (length given) 0 p)))
    go false p true q w v d x k u c r = omega (arith, pack_fits text, ap length (words_pack given text (eqb-false (length given) 0 p) q))
    go false p false q true v d x k u c r = omega (arith, why_fits text, ap length (words_why given text (eqb-false (length given) 0 p) q v))
    go false p false q false v true x k u c r = omega (arith, cells_fits text, ap length (words_cells given text (eqb-false (length given) 0 p) q v x))
    go false p false q false v false x true u c r = omega (arith, keys_fits rest text, ap length (words_keys given text (eqb-false (length given) 0 p) q v x u))
    go false p false q false v false x false u true r = omega (arith, file_fits given text, ap length (words_file given text (eqb-false (length given) 0 p) q v x u r))
    go false p false q false v false x false u false r = omega (arith, ap length (words_other given text (eqb-false (length given) 0 p) q v x u r))
