use Prim.Native.Nat.{ℕ, ◌≤◌}
use native.Mathlib.Omega.{arith}
use mathlib.Core.Path.{◌≡◌, sym, ap, ◌∙◌}
use mathlib.Core.Bool.{true}
use mathlib.Core.List.{List}
use lib.ListN.{length, replicate, length-set, length-replicate}
use lib.Seq.{length-take-le}
use Rattle.refusal.specs.declared.Refused.{Refused}
use Rattle.refusal.specs.Refusal.{number_of}
use Rattle.vectors.specs.Bounds.{max_vectors, max_words}
use Rattle.record.specs.Tables.{Tables, lent}
use Rattle.recover.specs.Every.{listed}
use Rattle.recover.proofs.Every.{listed_few}
use Rattle.print.specs.Print.{fitted, refused_text}
use Rattle.listing.proofs.Lists.{list_not, words_many, list_printed}
use Rattle.listing.proofs.list.Goals as goal
use Rattle.listing.proofs.list.Goals.{After-struct_known-1, Else-not-recover_all, Start}

abbrev tables : Start → Tables
tables s = lent s.args.h.now s.args.g.now s.args.aux.now

-- past the test
abbrev start : Else-not-recover_all → Start
start e = e.before.before.before.before.before.before.before.before

abbrev words : Else-not-recover_all → List ℕ
words e = e.recover_all.new.words

is_listed : (e : Else-not-recover_all) → listed (start e).args.unit (tables (start e)) ≡ true
is_listed e = sym e.recover_all.ensures.value ∙ e.if-not-recover_all.false

few : (e : Else-not-recover_all) → (start e).args.unit.k ≤ max_vectors
few e = (listed_few _ _ (is_listed e)).0

size : length (replicate {A = ℕ} max_words 0) ≡ max_words
size = length-replicate {A = ℕ} max_words 0

many : (e : Else-not-recover_all) → length (words e) ≡ max_words
many e = words_many _ _ (is_listed e) (replicate max_words 0) (words e) e.recover_all.ensures.words_after ∙ size

pub returns-then-not-recover_all : goal.returns-then-not-recover_all
returns-then-not-recover_all c =
    c.refused.ensures
    ∙ ap (λ (r : Refused). fitted (refused_text (number_of r.refusal) r.place) c.args.out.now) c.at.ensures
    ∙ ap (λ (x : List ℕ). fitted x c.args.out.now) (list_not c.args.unit (tables (goal.at.returns-then-not-recover_all c).Start) (sym c.recover_all.ensures.value ∙ c.if-not-recover_all.true))

pub overflow_add-last : goal.overflow_add-last
overflow_add-last c = omega (arith, few (goal.at.overflow_add-last c).Else-not-recover_all)

pub slice_bounds-words-end : goal.slice_bounds-words-end
slice_bounds-words-end c = omega (arith, few (goal.at.slice_bounds-words-end c).Else-not-recover_all, many (goal.at.slice_bounds-words-end c).Else-not-recover_all, length-set (words (goal.at.slice_bounds-words-end c).Else-not-recover_all) 0 (start (goal.at.slice_bounds-words-end c).Else-not-recover_all).args.unit.n)

pub slice_bounds-lines-end : goal.slice_bounds-lines-end
slice_bounds-lines-end c = sym (length-take-le _ _ (slice_bounds-words-end (goal.at.slice_bounds-lines-end c).After-struct_known-1))

pub returns : goal.returns
returns c =
    let s = start (goal.at.returns c).Else-not-recover_all in
    c.lines.ensures
    ∙ list_printed s.args.unit (tables s) (is_listed (goal.at.returns c).Else-not-recover_all) (replicate max_words 0) (words (goal.at.returns c).Else-not-recover_all) c.recover_all.ensures.words_after s.args.out.now (omega (arith, few (goal.at.returns c).Else-not-recover_all, size)) (omega (arith, few (goal.at.returns c).Else-not-recover_all))
