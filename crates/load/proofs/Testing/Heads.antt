-- When the first block of a file is the head of the record that it says. Assumes nothing.
use mathlib.Core.Path.{◌≡◌, refl, sym, ap, ap₂, ◌∙◌}
use mathlib.Core.Bool.{Bool, true, false, ◌&&◌}
use mathlib.Core.List.{List, [], ◌∷◌, ◌++◌, append_assoc}
use Prim.Native.Nat.{ℕ, zero, suc, ◌+◌, ◌-◌, ◌*◌, ◌%◌, ◌≤◌, ◌<◌}
use native.Mathlib.Nat.{mod-eq_of_lt}
use native.Mathlib.Omega.{arith}
use lib.Dec.{eqb, leb}
use lib.ListN.{length, get_or, take, drop, replicate, length-append, length-drop, length-replicate}
use lib.Seq.{length-take-le, take_all, take-add, drop-drop, drop-cons}
use borrow.Author.Tests.{eqb-true}
use Rattle.lists.specs.Members.{every}
use Rattle.lists.proofs.Tests.{and_unit, and_assoc}
use Rattle.lists.proofs.Entries.Alls.{all_take, all_drop}
use Rattle.lists.proofs.Entries.Parts.{part_take}
use Rattle.vectors.specs.Bounds.{max_variables}
use Rattle.record.specs.Record.{mark_number, mark_of, record_of, kinds_in}
use Rattle.record.proofs.MarkNumbers.{mark_low, mark_known}
use Rattle.block.specs.declared.Opening.{Opening}
use Rattle.block.specs.Bytes.{little_of, value_of, number_at}
use Rattle.block.specs.Block.{block_size, payload_at, check_at, opening_of, block_of, same, right_check}
use Rattle.block.specs.Look.{blank_from, laid_out}
use Rattle.block.proofs.Reading.Same.{same_self, same_append}
use Rattle.block.proofs.Reading.Numbers.{Bytes, little_value}
use Rattle.block.proofs.Reading.Laid.{zeros_same, block_same}
use Rattle.file.specs.Layout.{head_kind, letters, letters_at, n_at, p_at, n1_at, k_at, cells_at, tries_at, variables_at, mark_at, free_at}
use Rattle.file.specs.File.{opening, variable_bytes, variables_bytes, head_payload, head_of}
use Rattle.file.specs.Decode.{kind_of, kinds_from, record_in}
use Rattle.file.proofs.Laying.Heads.{fields_of, mark_bytes, fields_are}
use Rattle.load.specs.Inner.Laid.{has_letters, head_laid}
use Rattle.load.proofs.Testing.Said.{length_kinds, kinds_are, many_are}

-- ---- the variables

two_bytes : (i j : ℕ) → variable_bytes (kind_of i j) ≡ i ∷ j ∷ []
two_bytes i j = go (eqb j 0) refl
  where
    go : (t : Bool) → eqb j 0 ≡ t → variable_bytes (kind_of i j) ≡ i ∷ j ∷ []
    go true e = rw e (ap (λ (y : ℕ). i ∷ y ∷ []) (sym (eqb-true j 0 e)))
    go false e = rw e

kinds_back : (p at : ℕ) (file : List ℕ) → at + 2 * p ≤ length file → variables_bytes (kinds_from p at file) ≡ take (2 * p) (drop at file)
unfolding kinds_from variables_bytes
kinds_back zero at file h = refl
kinds_back (suc p) at file h =
    let e : 2 * suc p ≡ suc (suc (2 * p)) = omega arith in
    let d : drop at file ≡ get_or file at 0 ∷ get_or file (suc at) 0 ∷ drop (suc (suc at)) file =
    drop-cons file at 0 (omega arith) ∙ ap (λ (l : List ℕ). get_or file at 0 ∷ l) (drop-cons file (suc at) 0 (omega arith)) in
    ap₂ (λ (x y : List ℕ). x ++ y) (two_bytes (get_or file at 0) (get_or file (suc at) 0)) (kinds_back p (suc (suc at)) file (omega arith))
    ∙ sym (ap₂ take e d)

regroup : (a b c d : List ℕ) → a ++ b ++ c ++ d ≡ a ++ (b ++ (c ++ d))
regroup a b c d = simp append_assoc

-- ---- the fields

-- a field written again is the bytes that it was read from
field_back : (m at : ℕ) (file : List ℕ) → at + m ≤ length file → Bytes file → little_of m (number_at m at file) ≡ take m (drop at file)
unfolding number_at
field_back m at file h a =
    little_value m (take m (drop at file)) (length-take-le m (drop at file) (omega (arith, length-drop at file)))
    (all_take (λ (x : ℕ). x < 256) m (drop at file) (all_drop (λ (x : ℕ). x < 256) at file a))

-- parts that follow each other
joined : (m n at : ℕ) (file : List ℕ) → take m (drop at file) ++ take n (drop (at + m) file) ≡ take (m + n) (drop at file)
joined m n at file = ap (λ (l : List ℕ). take m (drop at file) ++ take n l) (sym (drop-drop m at file)) ∙ sym (take-add m n (drop at file))

module _ (file : List ℕ) (long : block_size ≤ length file) (bytes : Bytes file) where
  abbrev p : ℕ
  p = number_at 1 p_at file

  -- bytes 8 to 18
  numbers : List ℕ
  numbers =
      little_of 1 (number_at 1 n_at file) ++ (little_of 1 p ++ (little_of 1 (number_at 1 n1_at file)
      ++ (little_of 2 (number_at 2 k_at file) ++ (little_of 2 (number_at 2 cells_at file) ++ little_of 4 (number_at 4 tries_at file)))))

  fields_split : fields_of (record_in file) ≡ letters ++ numbers
  unfolding numbers record_in record_of little_of
  fields_split = rw (length_kinds p variables_at file)

  numbers_back : numbers ≡ take 11 (drop n_at file)
  unfolding numbers
  numbers_back =
      let a = field_back 1 n_at file (omega arith) bytes in
      let b = field_back 1 p_at file (omega arith) bytes in
      let c = field_back 1 n1_at file (omega arith) bytes in
      let d = field_back 2 k_at file (omega arith) bytes in
      let e = field_back 2 cells_at file (omega arith) bytes in
      let f = field_back 4 tries_at file (omega arith) bytes in
      cc (joined 2 4 cells_at file, joined 2 6 k_at file, joined 1 8 n1_at file, joined 1 9 p_at file, joined 1 10 n_at file)

  -- ---- the mark

  mark_byte : take 1 (drop mark_at file) ≡ get_or file mark_at 0 ∷ []
  mark_byte = ap (take 1) (drop-cons file mark_at 0 (omega arith))

  mark_is : mark_bytes (record_in file) ≡ mark_number (mark_of (get_or file mark_at 0)) % 256 ∷ []
  unfolding record_in record_of number_at value_of
  mark_is = let e : get_or file mark_at 0 + 256 * 0 ≡ get_or file mark_at 0 = omega arith in rw (mark_byte, e)

  mark_same : same (mark_bytes (record_in file)) (take 1 (drop mark_at file)) ≡ leb (get_or file mark_at 0) 1
  unfolding same
  mark_same =
      let x : ℕ = get_or file mark_at 0 in
      let low : mark_number (mark_of x) % 256 ≡ mark_number (mark_of x) = mod-eq_of_lt (omega (arith, mark_low (mark_of x))) in
      ap₂ same mark_is mark_byte ∙ ap (λ (i : ℕ). eqb i x && true) low ∙ and_unit (eqb (mark_number (mark_of x)) x) ∙ mark_known x

  module _ (few : p ≤ max_variables) where
    -- the head's bytes from 8 on, as far as the variables go, and the zeros behind them
    abbrev used : List ℕ
    used = take (11 + 2 * p) (drop n_at file)

    abbrev spare : ℕ
    spare = 2 * max_variables - 2 * p

    abbrev payload : List ℕ
    payload = letters ++ (used ++ (replicate spare 0 ++ mark_bytes (record_in file)))

    payload_is : head_payload (record_in file) ≡ payload
    payload_is =
        let f : List ℕ = fields_of (record_in file) in
        let v : List ℕ = variables_bytes (kinds_in (record_in file)) in
        let z : List ℕ = replicate (2 * max_variables - length v) 0 in
        let m : List ℕ = mark_bytes (record_in file) in
        let ev : v ≡ take (2 * p) (drop variables_at file) = ap variables_bytes (kinds_are file) ∙ kinds_back p variables_at file (omega arith) in
        let nv : length v ≡ 2 * p = ap length ev ∙ length-take-le (2 * p) (drop variables_at file) (omega (arith, length-drop variables_at file)) in
        let e : f ++ v ≡ letters ++ used =
        ap₂ (λ (x y : List ℕ). x ++ y) fields_split ev
        ∙ ap (λ (x : List ℕ). letters ++ x ++ take (2 * p) (drop variables_at file)) numbers_back
        ∙ append_assoc letters (take 11 (drop n_at file)) (take (2 * p) (drop variables_at file))
        ∙ ap (λ (x : List ℕ). letters ++ x) (joined 11 (2 * p) n_at file) in
        fields_are (record_in file)
        ∙ ap (λ (x : List ℕ). x ++ m) (sym (append_assoc f v z))
        ∙ ap₂ (λ (x : List ℕ) (i : ℕ). x ++ replicate (2 * max_variables - i) 0 ++ m) e nv
        ∙ regroup letters used (replicate spare 0) m

    abbrev o : Opening
    o = opening head_kind 0

    abbrev b : List ℕ
    b = take block_size file

    -- the bytes that the payload stands for
    payload_at_lem : take (free_at - payload_at) (drop payload_at b) ≡ take 4 (drop letters_at file) ++ (used ++ (take spare (drop (variables_at + 2 * p) file) ++ take 1 (drop mark_at file)))
    payload_at_lem =
        let e : variables_at + 2 * p + spare ≡ mark_at = omega arith in
        let d : 11 + 2 * p + (spare + 1) ≡ 60 = omega arith in
        let l : n_at + (11 + 2 * p) ≡ variables_at + 2 * p = omega arith in
        let last : take spare (drop (variables_at + 2 * p) file) ++ take 1 (drop mark_at file) ≡ take (spare + 1) (drop (variables_at + 2 * p) file) =
        ap (λ (i : ℕ). take spare (drop (variables_at + 2 * p) file) ++ take 1 (drop i file)) (sym e) ∙ joined spare 1 (variables_at + 2 * p) file in
        let from : used ++ take (spare + 1) (drop (variables_at + 2 * p) file) ≡ take 60 (drop n_at file) =
        ap (λ (i : ℕ). used ++ take (spare + 1) (drop i file)) (sym l) ∙ joined (11 + 2 * p) (spare + 1) n_at file ∙ ap (λ (i : ℕ). take i (drop n_at file)) d in
        part_take (free_at - payload_at) payload_at block_size file (omega arith)
        ∙ sym (joined 4 60 payload_at file)
        ∙ sym (ap (λ (x : List ℕ). take 4 (drop letters_at file) ++ x) (ap (λ (x : List ℕ). used ++ x) last ∙ from))

    blank_same : same (replicate spare 0) (take spare (drop (variables_at + 2 * p) file)) ≡ blank_from (variables_at + 2 * p) (take mark_at file)
    unfolding blank_from
    blank_same =
        let at : ℕ = variables_at + 2 * p in
        let n : length (take mark_at file) ≡ mark_at = length-take-le mark_at file (omega arith) in
        let m : length (drop at (take mark_at file)) ≡ spare = length-drop at (take mark_at file) ∙ omega arith in
        let e : drop at (take check_at (take mark_at file)) ≡ take spare (drop at file) =
        ap (drop at) (take_all check_at (take mark_at file) (omega arith)) ∙ sym (take_all spare (drop at (take mark_at file)) (omega arith)) ∙ part_take spare at mark_at file (omega arith) in
        zeros_same spare (take spare (drop at file)) (length-take-le spare (drop at file) (omega (arith, length-drop at file))) ∙ ap (every (λ b. eqb b 0)) (sym e)

    length_payload : length payload ≡ free_at - payload_at
    length_payload =
        let z : List ℕ = replicate spare 0 in
        let m : List ℕ = mark_bytes (record_in file) in
        let nu : length used ≡ 11 + 2 * p = length-take-le (11 + 2 * p) (drop n_at file) (omega (arith, length-drop n_at file)) in
        length-append letters (used ++ (z ++ m)) ∙ omega (arith, length-append used (z ++ m), length-append z m, length-replicate {A = ℕ} spare 0)

    payload_same : same payload (take (free_at - payload_at) (drop payload_at b)) ≡ (has_letters file && (blank_from (variables_at + 2 * p) (take mark_at file) && leb (get_or file mark_at 0) 1))
    unfolding has_letters
    payload_same =
        let z : List ℕ = replicate spare 0 in
        let m : List ℕ = mark_bytes (record_in file) in
        let zb : List ℕ = take spare (drop (variables_at + 2 * p) file) in
        let mb : List ℕ = take 1 (drop mark_at file) in
        let nz : length z ≡ length zb = length-replicate spare 0 ∙ sym (length-take-le spare (drop (variables_at + 2 * p) file) (omega (arith, length-drop (variables_at + 2 * p) file))) in
        ap (same payload) payload_at_lem
        ∙ same_append letters (used ++ (z ++ m)) (take 4 (drop letters_at file)) (used ++ (zb ++ mb)) (sym (length-take-le 4 (drop letters_at file) (omega (arith, length-drop letters_at file))))
        ∙ ap (λ (t : Bool). has_letters file && t)
        (same_append used (z ++ m) used (zb ++ mb) refl
        ∙ ap₂ (λ (x y : Bool). x && y) (same_self used) (same_append z m zb mb nz ∙ ap₂ (λ (x y : Bool). x && y) blank_same mark_same))

    pub head_same : right_check b ≡ true → same (head_of (record_in file)) b ≡ head_laid (record_in file).p file
    unfolding head_laid laid_out head_of
    head_same right =
        let z : Bool = blank_from (variables_at + 2 * p) (take mark_at file) in
        let k : Bool = leb (get_or file mark_at 0) 1 in
        ap (λ (q : List ℕ). same (block_of o q) b) payload_is
        ∙ block_same o payload b (length-take-le block_size file long) (omega (arith, length_payload)) right
        ∙ ap (λ (i : ℕ). (same (opening_of o) (take payload_at b) && same payload (take i (drop payload_at b))) && blank_from (payload_at + i) b) length_payload
        ∙ ap (λ (t : Bool). (same (opening_of o) (take payload_at b) && t) && blank_from free_at b) payload_same
        ∙ swapped (same (opening_of o) (take payload_at b)) (has_letters file && (z && k)) (blank_from free_at b)
        ∙ and_assoc (laid_out o free_at b) (has_letters file) (z && k)
        ∙ and_assoc (laid_out o free_at b && has_letters file) z k
        ∙ ap (λ (i : ℕ). laid_out o free_at b && has_letters file && blank_from (variables_at + 2 * i) (take mark_at file) && k) (sym (many_are file))
      where
        swapped : (x y z : Bool) → ((x && y) && z) ≡ ((x && z) && y)
        swapped false y z = refl
        swapped true false false = refl
        swapped true false true = refl
        swapped true true z = sym (and_unit z)
