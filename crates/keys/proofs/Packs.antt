-- What is packed of lines of keys, and of a text. Assumes nothing.
use Prim.Native.Nat.{ℕ, ◌-◌, ◌≤◌, ◌<◌}
use native.Mathlib.Omega.{arith}
use mathlib.Core.Path.{◌≡◌, refl, sym, ap, ap₂, ◌∙◌}
use mathlib.Core.Bool.{Bool, true, false, not, ◌&&◌}
use mathlib.Core.List.{List, [], ◌∷◌, map}
use borrow.Author.Tests.{le-leb, lt-leb}
use lib.Dec.{leb}
use lib.ListN.{length, take, drop, length-drop}
use lib.Seq.{take_all}
use Rattle.lists.specs.Members.{every}
use Rattle.lists.proofs.Tests.{and_true}
use Rattle.record.specs.Tables.{lent}
use Rattle.build.specs.Built.{Built}
use Rattle.build.specs.Build.{Outcome, after, build_chosen}
use Rattle.build.proofs.Holding.Holds.{chosen_holds}
use Rattle.print.specs.Print.{fitted, refused_text}
use Rattle.input.specs.Input.{max_text, max_listed}
use Rattle.input.specs.Opens.{opens}
use Rattle.answer.specs.Make.{roomy, program_allowance}
use Rattle.answer.specs.Answer.{input_text}
use Rattle.pack.specs.Pack.{pack_built, packed}
use Rattle.pack.proofs.Packs.{built_packed}
use Rattle.profiles.specs.Key as key
use Rattle.profiles.specs.Key.{key_bits, in_widths}
use Rattle.profiles.specs.Keys.{build_keys}
use Rattle.profiles.proofs.Building.{keys_wide, keys_build}
use Rattle.dated.specs.Dated.{good_line, key_in, dated_of}
use Rattle.dated.proofs.Lines.{dated_wide, dated_word}
use Rattle.keys.specs.Keys.{Asked, header, body, lines_in, good_lines, cells_by, lines_text, keys_text, asked_of, keys_of}

abbrev narrow : List ℕ → Bool
narrow l = not (dated_of l).wide

abbrev word : List ℕ → ℕ
word l = (dated_of l).word

-- ---- lines of five numbers

not_not : (b : Bool) → not (not b) ≡ b
not_not true = refl
not_not false = refl

widths_are : (ls : List (List ℕ)) → every good_line ls ≡ true → every narrow ls ≡ every in_widths (map key_in ls)
unfolding every
widths_are [] g = refl
widths_are (l ∷ ls) g =
    let p = and_true (good_line l) (every good_line ls) g in
    ap₂ (λ (x y : Bool). x && y) (ap not (dated_wide l p.0) ∙ not_not (in_widths (key_in l))) (widths_are ls p.1)

words_are : (ls : List (List ℕ)) → every good_line ls ≡ true → every in_widths (map key_in ls) ≡ true → map word ls ≡ map key.packed (map key_in ls)
unfolding every
words_are [] g w = refl
words_are (l ∷ ls) g w =
    let p = and_true (good_line l) (every good_line ls) g in
    let q = and_true (in_widths (key_in l)) (every in_widths (map key_in ls)) w in
    ap₂ (λ (x : ℕ) (xs : List ℕ). x ∷ xs) (dated_word l p.0 q.0) (words_are ls p.1 q.1)

module _ (degree cells : ℕ) (bytes : List ℕ) where
  abbrev ls : List (List ℕ)
  ls = lines_in bytes

  pub lines_bad : good_lines bytes ≡ false → input_text ≡ lines_text degree cells bytes
  unfolding lines_text
  lines_bad g = rw (g, lines_text)

  module _ (g : good_lines bytes ≡ true) (wide : Bool) (n : not wide ≡ every narrow ls) where
    all_good : every good_line ls ≡ true
    unfolding good_lines
    all_good = (and_true (every good_line ls) (leb (length ls) max_listed) g).0

    built : packed (build_keys degree (cells_by cells (length ls)) program_allowance (map key_in ls) roomy) ≡ lines_text degree cells bytes
    unfolding lines_text
    built = rw (g, lines_text)

    widths : not wide ≡ every in_widths (map key_in ls)
    widths = n ∙ widths_are ls all_good

    pub lines_wide : wide ≡ true → refused_text 30 0 ≡ lines_text degree cells bytes
    unfolding packed
    lines_wide y =
        let w : every in_widths (map key_in ls) ≡ false = sym widths ∙ ap not y in
        ap packed (keys_wide degree (cells_by cells (length ls)) program_allowance (map key_in ls) roomy w) ∙ built

    pub lines_packed : wide ≡ false → (b : Built) (h g aux words out : List ℕ) (count : ℕ) → count ≡ length ls → take count words ≡ map word ls
        → after b h g aux ≡ build_chosen key_bits degree (cells_by cells count) program_allowance (take count words) roomy → pack_built b (lent h g aux) out ≡ fitted (lines_text degree cells bytes) out
    lines_packed f b h g aux words out count ec ew e =
        let w : every in_widths (map key_in ls) ≡ true = sym widths ∙ ap not f in
        let o : Outcome = build_chosen key_bits degree (cells_by cells (length ls)) program_allowance (map key.packed (map key_in ls)) roomy in
        let i : after b h g aux ≡ o =
        e ∙ ap₂ (λ (m : ℕ) (vs : List ℕ). build_chosen key_bits degree (cells_by cells m) program_allowance vs roomy) ec (ew ∙ words_are ls all_good w) in
        let q = ap packed (keys_build degree (cells_by cells (length ls)) program_allowance (map key_in ls) roomy w) in
        ap (λ (x : Outcome). pack_built x.built x.tables out) i
        ∙ built_packed o out (λ z. (chosen_holds key_bits degree (cells_by cells (length ls)) program_allowance (map key.packed (map key_in ls)) roomy z).is_sound)
        ∙ ap (λ (l : List ℕ). fitted l out) (q ∙ built)

-- ---- the text

module _ (degree cells : ℕ) (text : List ℕ) where
  pub keys_long : max_text < length text → input_text ≡ keys_text degree cells text
  unfolding keys_text
  keys_long h = rw (lt-leb (length text) max_text h, keys_text)

  module _ (few : length text ≤ max_text) where
    by_body : lines_text degree cells (body text) ≡ keys_text degree cells text
    unfolding keys_text
    by_body = rw (le-leb (length text) max_text few, keys_text)

    pub keys_plain : opens header text ≡ false → lines_text degree cells text ≡ keys_text degree cells text
    unfolding body
    keys_plain o = let q : lines_text degree cells text ≡ lines_text degree cells (body text) = rw (o, body) in q ∙ by_body

    pub keys_named : opens header text ≡ true → lines_text degree cells (take (length text - length header) (drop (length header) text)) ≡ keys_text degree cells text
    unfolding body
    keys_named o =
        let q : lines_text degree cells (drop (length header) text) ≡ lines_text degree cells (body text) = rw (o, body) in
        ap (lines_text degree cells) (take_all (length text - length header) (drop (length header) text) (omega (arith, length-drop (length header) text))) ∙ q ∙ by_body

-- ---- with words

module _ (words text : List ℕ) (a : Asked) (e : a ≡ asked_of words) where
  pub keys_not : a.good ≡ false → input_text ≡ keys_of words text
  unfolding keys_of
  keys_not f = rw (ap (λ (x : Asked). x.good) (sym e) ∙ f, keys_of)

  pub keys_asked : a.good ≡ true → keys_text a.degree a.cells text ≡ keys_of words text
  unfolding keys_of
  keys_asked y =
      rw (ap (λ (x : Asked). x.good) (sym e) ∙ y, keys_of)
      (ap₂ (λ (d c : ℕ). keys_text d c text) (ap (λ (x : Asked). x.degree) e) (ap (λ (x : Asked). x.cells) e))
