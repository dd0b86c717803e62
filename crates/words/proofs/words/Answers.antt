use Prim.Native.Nat.{ℕ}
use mathlib.Core.Path.{◌≡◌, sym, ap, ◌∙◌}
use mathlib.Core.Bool.{Bool}
use mathlib.Core.List.{List}
use borrow.Author.Tests.{eqb-true, eqb-false}
use lib.Dec.{eqb}
use lib.ListN.{length}
use Rattle.input.proofs.Opening.{opens_long}
use Rattle.print.specs.Print.{fitted}
use Rattle.words.specs.Words.{keys_word}
use Rattle.words.proofs.Writing.{words_none, words_pack, words_why, words_cells, words_keys, words_file, words_other}
use Rattle.words.proofs.words.Goals as goal

-- what the test of no words says
none : (given : List ℕ) {t u : Bool} → t ≡ eqb (length given) 0 → t ≡ u → eqb (length given) 0 ≡ u
none given e f = sym e ∙ f

pub returns-then-is_empty : goal.returns-then-is_empty
returns-then-is_empty c =
    c.answer.ensures
    ∙ ap (λ (x : List ℕ). fitted x c.args.out.now) (words_none c.args.given.now c.args.text.now (eqb-true _ 0 (none c.args.given.now c.is_empty.ensures c.if-is_empty.true)))

pub returns-then-says : goal.returns-then-says
returns-then-says c =
    c.pack.ensures
    ∙ ap (λ (x : List ℕ). fitted x c.args.out.now) (words_pack c.args.given.now c.args.text.now (eqb-false _ 0 (none c.args.given.now c.is_empty.ensures c.if-is_empty.false)) (sym c.says.ensures ∙ c.if-says.true))

pub returns-then-says-2 : goal.returns-then-says-2
returns-then-says-2 c =
    c.why.ensures
    ∙ ap (λ (x : List ℕ). fitted x c.args.out.now) (words_why c.args.given.now c.args.text.now (eqb-false _ 0 (none c.args.given.now c.is_empty.ensures c.if-is_empty.false)) (sym c.says.ensures ∙ c.if-says.false) (sym c.says-2.ensures ∙ c.if-says-2.true))

pub returns-then-says-3 : goal.returns-then-says-3
returns-then-says-3 c =
    c.cells.ensures
    ∙ ap (λ (x : List ℕ). fitted x c.args.out.now) (words_cells c.args.given.now c.args.text.now (eqb-false _ 0 (none c.args.given.now c.is_empty.ensures c.if-is_empty.false)) (sym c.says.ensures ∙ c.if-says.false) (sym c.says-2.ensures ∙ c.if-says-2.false) (sym c.says-3.ensures ∙ c.if-says-3.true))

pub slice_bounds-keys-count : goal.slice_bounds-keys-count
slice_bounds-keys-count c = opens_long keys_word c.args.given.now (sym c.opens.ensures ∙ c.if-opens.true)

pub slice_bounds-keys-start : goal.slice_bounds-keys-start
slice_bounds-keys-start c = slice_bounds-keys-count c

pub returns-then-opens : goal.returns-then-opens
returns-then-opens c =
    c.keys.ensures
    ∙ ap (λ (x : List ℕ). fitted x c.args.out.now) (words_keys c.args.given.now c.args.text.now (eqb-false _ 0 (none c.args.given.now c.is_empty.ensures c.if-is_empty.false)) (sym c.says.ensures ∙ c.if-says.false) (sym c.says-2.ensures ∙ c.if-says-2.false) (sym c.says-3.ensures ∙ c.if-says-3.false) (sym c.opens.ensures ∙ c.if-opens.true))

pub returns-then-not-asks_file : goal.returns-then-not-asks_file
returns-then-not-asks_file c =
    c.text.ensures
    ∙ ap (λ (x : List ℕ). fitted x c.args.out.now) (words_other c.args.given.now c.args.text.now (eqb-false _ 0 (none c.args.given.now c.is_empty.ensures c.if-is_empty.false)) (sym c.says.ensures ∙ c.if-says.false) (sym c.says-2.ensures ∙ c.if-says-2.false) (sym c.says-3.ensures ∙ c.if-says-3.false) (sym c.opens.ensures ∙ c.if-opens.false) (sym c.asks_file.ensures ∙ c.if-not-asks_file.true))

pub from_file-requires : goal.from_file-requires
from_file-requires c = sym c.asks_file.ensures ∙ c.if-not-asks_file.false

pub returns : goal.returns
returns c =
    c.from_file.ensures
    ∙ ap (λ (x : List ℕ). fitted x c.args.out.now) (words_file c.args.given.now c.args.text.now (eqb-false _ 0 (none c.args.given.now c.is_empty.ensures c.if-is_empty.false)) (sym c.says.ensures ∙ c.if-says.false) (sym c.says-2.ensures ∙ c.if-says-2.false) (sym c.says-3.ensures ∙ c.if-says-3.false) (sym c.opens.ensures ∙ c.if-opens.false) (sym c.asks_file.ensures ∙ c.if-not-asks_file.false))
