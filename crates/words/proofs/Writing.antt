-- What is written, word by word. Assumes nothing.
use Prim.Native.Nat.{ℕ, ◌-◌, ◌≤◌}
use native.Mathlib.Omega.{arith}
use mathlib.Core.Path.{◌≡◌, refl, sym, ap, ◌∙◌}
use mathlib.Core.Bool.{Bool, true, false}
use mathlib.Core.List.{List}
use borrow.Author.Tests.{eq-eqb, ne_eqb}
use lib.ListN.{length, take, drop, length-drop}
use lib.Seq.{take_all}
use Rattle.record.specs.declared.Record.{Record}
use Rattle.record.specs.Tables.{Tables}
use Rattle.record.specs.Formed.{well_formed}
use Rattle.record.proofs.Soundness.{sound_says}
use Rattle.print.specs.Print.{fitted, print_of, refused_text}
use Rattle.print.proofs.Pages.Fitting.{print_formed}
use Rattle.file.specs.Read.{Reading, read_of}
use Rattle.file.proofs.Loading.Loaded.{read_loaded}
use Rattle.answer.specs.Make.{roomy}
use Rattle.answer.specs.Answer.{input_text, answer_of}
use Rattle.pack.specs.Pack.{pack_of}
use Rattle.listing.specs.Listing.{list_text}
use Rattle.find.specs.Find.{find_text}
use Rattle.why.specs.Why.{why_of}
use Rattle.amend.specs.Amend.{amend_text}
use Rattle.keys.specs.Keys.{keys_of}
use Rattle.input.specs.Opens.{opens}
use Rattle.words.specs.Words.{says, pack_word, why_word, cells_word, keys_word, show_word, list_word, find_word, add_word, asks_file, printed_of, of_unit, of_reading, of_file, otherwise, words_of}
use Rattle.cells.specs.Cells.{cells_of}
use Rattle.words.specs.Inner.{unit_printed}
use Rattle.input.proofs.Opening.{opens_long}
use Rattle.words.proofs.Tests.{finds}

-- ---- a unit

module _ (given : List ℕ) (u : Record) (t : Tables) (out : List ℕ) where
  pub unit_shown : says show_word given ≡ true → print_of u t out ≡ unit_printed given u t out
  unfolding unit_printed
  unit_shown h = rw (h, unit_printed)

  module _ (no_show : says show_word given ≡ false) where
    pub unit_listed : says list_word given ≡ true → fitted (list_text u t) out ≡ unit_printed given u t out
    unfolding unit_printed
    unit_listed h = rw (no_show, h, unit_printed)

    -- the keys are the bytes after the word
    module _ (no_list : says list_word given ≡ false) (asks : asks_file given ≡ true) (no_add : opens add_word given ≡ false) where
      pub find_long : length find_word ≤ length given
      find_long = opens_long find_word given (finds given no_show no_list asks no_add)

      pub unit_found : fitted (find_text (take (length given - length find_word) (drop (length find_word) given)) u t) out ≡ unit_printed given u t out
      unfolding unit_printed
      unit_found =
          rw (no_show, no_list, unit_printed)
          (ap (λ (l : List ℕ). fitted (find_text l u t) out) (take_all (length given - length find_word) (drop (length find_word) given) (omega (arith, length-drop (length find_word) given))))

  -- a unit that is well formed is printed
  pub unit_said : well_formed u t ≡ true → unit_printed given u t out ≡ fitted (printed_of given u t) out
  unfolding unit_printed printed_of
  unit_said f = go (says show_word given) refl (says list_word given) refl
    where
      go : (a : Bool) → says show_word given ≡ a → (b : Bool) → says list_word given ≡ b → unit_printed given u t out ≡ fitted (printed_of given u t) out
      go true p b q = rw (p, unit_printed, printed_of) (sym (print_formed u t out f))
      go false p true q = rw (p, q, unit_printed, printed_of) refl
      go false p false q = rw (p, q, unit_printed, printed_of) refl

-- ---- a file

module _ (given file : List ℕ) (r : Reading) (e : r ≡ read_of file roomy) where
  pub file_refused : (r.refusal ≡ 0 → ⊥) → refused_text r.refusal r.place ≡ of_file given file
  unfolding of_file of_reading
  file_refused n =
      let q : refused_text r.refusal r.place ≡ of_reading given r = rw (ne_eqb r.refusal 0 n, of_reading) in
      q ∙ ap (of_reading given) e

  pub file_read : r.refusal ≡ 0 → of_unit given r.unit r.tables ≡ of_file given file
  unfolding of_file of_reading
  file_read z =
      let q : of_unit given r.unit r.tables ≡ of_reading given r = rw (eq-eqb r.refusal 0 z, of_reading) in
      q ∙ ap (of_reading given) e

  -- a unit that was read is well formed
  formed : r.refusal ≡ 0 → well_formed r.unit r.tables ≡ true
  formed z =
      let l = read_loaded file roomy (ap (λ (x : Reading). x.refusal) (sym e) ∙ z) in
      ap (λ (x : Reading). well_formed x.unit x.tables) e ∙ (sound_says _ _ l.is_sound).well_formed_lem

  module _ (z : r.refusal ≡ 0) where
    -- what is printed of it, where nothing is added
    module _ (no_add : opens add_word given ≡ false) where
      printed_file : printed_of given r.unit r.tables ≡ of_file given file
      unfolding of_unit
      printed_file = let q : printed_of given r.unit r.tables ≡ of_unit given r.unit r.tables = rw (no_add, of_unit) in q ∙ file_read z

      pub file_said : (out : List ℕ) → unit_printed given r.unit r.tables out ≡ fitted (of_file given file) out
      file_said out = unit_said given r.unit r.tables out (formed z) ∙ ap (λ (l : List ℕ). fitted l out) printed_file

    -- the keys are the bytes after the word
    module _ (adds : opens add_word given ≡ true) where
      pub add_long : length add_word ≤ length given
      add_long = opens_long add_word given adds

      pub file_added : amend_text (take (length given - length add_word) (drop (length add_word) given)) r.unit r.tables ≡ of_file given file
      unfolding of_unit
      file_added =
          let q : amend_text (drop (length add_word) given) r.unit r.tables ≡ of_unit given r.unit r.tables = rw (adds, of_unit) in
          ap (λ (l : List ℕ). amend_text l r.unit r.tables) (take_all (length given - length add_word) (drop (length add_word) given) (omega (arith, length-drop (length add_word) given)))
          ∙ q
          ∙ file_read z

-- ---- all words

module _ (given text : List ℕ) where
  pub words_none : length given ≡ 0 → answer_of text ≡ words_of given text
  unfolding words_of
  words_none e = rw (eq-eqb (length given) 0 e, words_of)

  module _ (some : length given ≡ 0 → ⊥) where
    pub words_pack : says pack_word given ≡ true → pack_of text ≡ words_of given text
    unfolding words_of
    words_pack h = rw (ne_eqb (length given) 0 some, h, words_of)

    module _ (no_pack : says pack_word given ≡ false) where
      pub words_why : says why_word given ≡ true → why_of text ≡ words_of given text
      unfolding words_of
      words_why h = rw (ne_eqb (length given) 0 some, no_pack, h, words_of)

      module _ (no_why : says why_word given ≡ false) where
        pub words_cells : says cells_word given ≡ true → cells_of text ≡ words_of given text
        unfolding words_of
        words_cells h = rw (ne_eqb (length given) 0 some, no_pack, no_why, h, words_of)

        module _ (no_cells : says cells_word given ≡ false) where
          pub words_keys : opens keys_word given ≡ true → keys_of (take (length given - length keys_word) (drop (length keys_word) given)) text ≡ words_of given text
          unfolding words_of
          words_keys h =
              rw (ne_eqb (length given) 0 some, no_pack, no_why, no_cells, h, words_of)
              (ap (λ (l : List ℕ). keys_of l text) (take_all (length given - length keys_word) (drop (length keys_word) given) (omega (arith, length-drop (length keys_word) given))))

          module _ (no_keys : opens keys_word given ≡ false) where
            left : otherwise given text ≡ words_of given text
            unfolding words_of
            left = rw (ne_eqb (length given) 0 some, no_pack, no_why, no_cells, no_keys, words_of)

            pub words_file : asks_file given ≡ true → of_file given text ≡ words_of given text
            unfolding otherwise
            words_file h = let q : of_file given text ≡ otherwise given text = rw (h, otherwise) in q ∙ left

            pub words_other : asks_file given ≡ false → input_text ≡ words_of given text
            unfolding otherwise
            words_other h = let q : input_text ≡ otherwise given text = rw (h, otherwise) in q ∙ left
