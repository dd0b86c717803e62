-- The words while rows are placed: AUX[i] holds row + 2^12 * column + 2^24 * next + 2^40 * weight of vector i; H[r] holds 2^15 + the first vector of row r until the row is placed, 0 where it is empty.
use Rattle.std.specs.Prelude.{ℕ, zero, suc, ◌+◌, ◌-◌, ◌*◌, ◌/◌, ◌%◌, ◌^◌, max, ◌≤◌, ◌<◌, ◌≡◌, true, false, cond, List, [], ◌∷◌, map, ltb, leb, length, get_or, set}
use Rattle.std.specs.Prelude.{Result, Ok, Err}
use Rattle.lists.specs.Members as Members
use Rattle.rows.specs.Care.{Care, in_row}
use Rattle.rows.specs.Fit.{first_fit, put, Fit, At, None}
use Rattle.rows.specs.Answer.{max_places, row_in, care_of, cares_in, owned}
use Rattle.rows.specs.declared.Stop.{Stop}
use Rattle.rows.specs.declared.Stop.TheVariants.{NoFit, Over}

-- ---- a word

-- how many words the links can tell apart
abbrev pub max_links : ℕ
max_links = 2 ^ 16

abbrev pub next_in : ℕ → ℕ
next_in w = w / max_places % max_links

abbrev pub weight_in : ℕ → ℕ
weight_in w = w / (max_places * max_links)

-- each word after the first is a row below rows and a column, and no more
pub record Packed (ws : List ℕ) (rows : ℕ) : Type 0 where
  pub words : (i : ℕ) → 0 < i → i < length ws → get_or ws i 0 < max_places
  pub rows_in : (i : ℕ) → 0 < i → i < length ws → row_in (get_or ws i 0) < rows

-- each word after the first without its link and its weight
unfoldable pub unlinked : List ℕ → List ℕ
unlinked [] = []
unlinked (w ∷ ws) = w ∷ map (λ v. v % max_places) ws

-- ---- the chains

-- the vectors met from j on along the links, f of them at the most
unfoldable pub chain_in : ℕ → List ℕ → ℕ → List Care
chain_in zero ws j = []
chain_in (suc f) ws j = elim (ltb j (length ws)) [ true ↦ care_of j (get_or ws j 0) ∷ chain_in f ws (next_in (get_or ws j 0)) | false ↦ [] ]

-- all of them
unfoldable pub chain : List ℕ → ℕ → List Care
unfolding chain_in
chain ws j = chain_in (length ws) ws j

-- the same, as their owner writes them
abbrev pub chain_of : ℕ → List ℕ → ℕ → List Care
chain_of owner ws j = map (owned owner) (chain ws j)

-- past b each next is a later vector
abbrev pub Rises : ℕ → List ℕ → Type 0
Rises b ws = (i : ℕ) → b < i → i < length ws → i < next_in (get_or ws i 0)

-- past b each weight is how many there are from there on
abbrev pub Weighs : ℕ → List ℕ → Type 0
Weighs b ws = (i : ℕ) → b < i → i < length ws → weight_in (get_or ws i 0) ≡ length (chain ws i)

-- ---- the marks

-- a row's mark is this and the first of its vectors
abbrev pub mark_bit : ℕ
mark_bit = 2 ^ 15

-- the mark x of a row with the vectors m
pub data Mark (b : ℕ) (ws : List ℕ) (m : List Care) (x : ℕ) : Type 0 where
  empty : x ≡ 0 → m ≡ [] → Mark b ws m x
  start : mark_bit + b < x → x < mark_bit + length ws → chain ws (x - mark_bit) ≡ m → Mark b ws m x

-- each row is marked as its vectors say
abbrev pub Marked : List ℕ → List ℕ → Type 0
Marked ws h = (r : ℕ) → r < length h → Mark 0 ws (in_row r (cares_in ws)) (get_or h r 0)

-- the words ws linked to ws', and the rows marked
pub record LinkedIs (ws ws' h' : List ℕ) : Type 0 where
  pub back : unlinked ws' ≡ ws
  pub rises : Rises 0 ws'
  pub weighs : Weighs 0 ws'
  pub cares : cares_in ws' ≡ cares_in ws
  pub marked : Marked ws' h'

-- ---- the placing

-- the largest column, or t
unfoldable pub top_from : ℕ → List Care → ℕ
top_from t [] = t
top_from t (c ∷ cs) = top_from (max t c.column) cs

abbrev pub top_of : List Care → ℕ
top_of m = top_from 0 m

-- the first fit of a row with the largest column t, d being the smallest displacement at which its cells are free, past the cells too
unfoldable pub fit_at : ℕ → ℕ → ℕ → Fit
fit_at t d cells = elim (ltb (t + d) cells) [ true ↦ At d | false ↦ None (cells - t) (t + d + 1) ]

-- the row with the vectors m tried at its first fit, with so many tries before it and an allowance of a: what is answered, and H and G then
pub data RowTried (m : List Care) (row tries a : ℕ) (h g : List ℕ) (r : Result ℕ Stop) (h' g' : List ℕ) : Type 0 where
  placed : (d : ℕ) → first_fit g m ≡ At d → h' ≡ set h row d → g' ≡ put g d m → tries + (d + 1) ≤ a → r ≡ Ok (tries + (d + 1)) → RowTried m row tries a h g r h' g'
  over : (d : ℕ) → first_fit g m ≡ At d → h' ≡ set h row d → g' ≡ put g d m → a < tries + (d + 1) → r ≡ Err (Over row) → RowTried m row tries a h g r h' g'
  stuck : (t n : ℕ) → first_fit g m ≡ None t n → h' ≡ h → g' ≡ g → tries + t ≤ a → r ≡ Err (NoFit row t n tries) → RowTried m row tries a h g r h' g'
  stuck_over : (t n : ℕ) → first_fit g m ≡ None t n → h' ≡ h → g' ≡ g → a < tries + t → r ≡ Err (Over row) → RowTried m row tries a h g r h' g'

-- ---- the way back

-- the cell of a vector emptied, where its row is placed: its word in h is no mark
abbrev pub emptied : List ℕ → Care → List ℕ → List ℕ
emptied h c g = cond (leb (get_or h c.row 0) mark_bit) (set g (c.column + get_or h c.row 0) 0) g

-- the cells of the rows that are placed emptied
unfoldable pub undone : List ℕ → List Care → List ℕ → List ℕ
undone h [] g = g
undone h (c ∷ cs) g = undone h cs (emptied h c g)

-- the row is one of the rows, and where it is placed its cell is one of the cells
abbrev pub Within : List ℕ → ℕ → Care → Type 0
Within h cells c = (c.row < length h) × (get_or h c.row 0 ≤ mark_bit → c.column + get_or h c.row 0 < cells)

-- the rows h and the cells g can be taken back to the cells g₀
pub record WayBack (ws g₀ h g : List ℕ) : Type 0 where
  pub within : Members.All (Within h (length g)) (cares_in ws)
  pub back : undone h (cares_in ws) g ≡ g₀
