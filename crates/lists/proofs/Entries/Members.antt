-- Members of a list, and entries of a mapped list. Assumes nothing.
use Prim.Native.Nat.{ℕ, zero, suc, ◌+◌, ◌<◌}
use native.Mathlib.Omega.{arith}
use native.Mathlib.Numerals.{add-one}
use mathlib.Core.Path.{◌≡◌, refl, ap, ap₂}
use mathlib.Core.List.{List, [], ◌∷◌, ◌++◌, map}
use mathlib.Core.Logic.{inl, inr}
use lib.ListN.{length, get_or, take, drop}
use lib.Seq.{take-suc}
use Rattle.lists.specs.Members.{In, All}

pub all_in : {A : Type 0} (P : A → Type 0) (x : A) (l : List A) → All P l → In x l → P x
all_in P x [] a m = absurd m
all_in P x (y ∷ l) a (inl e) = rw e a.0
all_in P x (y ∷ l) a (inr m) = all_in P x l a.1 m

-- what holds of every member holds of all
pub all_of : {A : Type 0} (P : A → Type 0) (l : List A) → ((x : A) → In x l → P x) → All P l
all_of P [] h = tt
all_of P (x ∷ l) h = (h x (inl refl), all_of P l (λ y i. h y (inr i)))

pub in_pos : {A : Type 0} (x : A) (l : List A) → In x l → 0 < length l
in_pos x [] m = absurd m
in_pos x (y ∷ l) m = omega arith

pub get_d_in : {A : Type 0} (l : List A) (i : ℕ) (d : A) → i < length l → In (get_or l i d) l
get_d_in [] i d h = absurd (omega arith)
get_d_in (x ∷ l) zero d h = inl refl
get_d_in (x ∷ l) (suc i) d h = inr (get_d_in l i d (omega arith))

pub get_d_map {ℓ ℓ'} : {A : Type ℓ} {B : Type ℓ'} (f : A → B) (l : List A) (i : ℕ) (d : A) (e : B) → i < length l
    → get_or (map f l) i e ≡ f (get_or l i d)
get_d_map f [] i d e h = absurd (omega arith)
get_d_map f (x ∷ xs) zero d e h = refl
get_d_map f (x ∷ xs) (suc i) d e h = get_d_map f xs i d e (omega arith)

pub map_map : {A B C : Type 0} (g : B → C) (f : A → B) (l : List A) → map g (map f l) ≡ map (λ (x : A). g (f x)) l
map_map g f [] = refl
map_map g f (x ∷ xs) = ap (λ (t : List _). g (f x) ∷ t) (map_map g f xs)

pub take_more : {A : Type 0} (l : List A) (i : ℕ) (d : A) → i < length l → take (i + 1) l ≡ take i l ++ (get_or l i d ∷ [])
take_more l i d h = rw (add-one, take-suc l i d)

pub map_take {ℓ ℓ'} : {A : Type ℓ} {B : Type ℓ'} (f : A → B) (i : ℕ) (l : List A) → map f (take i l) ≡ take i (map f l)
map_take f zero l = refl
map_take f (suc i) [] = refl
map_take f (suc i) (x ∷ l) = ap (λ (t : List _). f x ∷ t) (map_take f i l)

pub map_drop {ℓ ℓ'} : {A : Type ℓ} {B : Type ℓ'} (f : A → B) (i : ℕ) (l : List A) → map f (drop i l) ≡ drop i (map f l)
map_drop f zero l = refl
map_drop f (suc i) [] = refl
map_drop f (suc i) (x ∷ l) = map_drop f i l

-- two functions that agree on every entry
pub map_same : {A B : Type 0} (f g : A → B) (P : A → Type 0) → ((x : A) → P x → f x ≡ g x) → (l : List A) → All P l → map f l ≡ map g l
map_same f g P h [] a = refl
map_same f g P h (x ∷ l) a = ap₂ (λ (y : _) (t : List _). y ∷ t) (h x a.0) (map_same f g P h l a.1)

pub all_map : {A : Type 0} (P Q : A → Type 0) → ((x : A) → P x → Q x) → (l : List A) → All P l → All Q l
all_map P Q h [] a = tt
all_map P Q h (x ∷ l) a = (h x a.0, all_map P Q h l a.1)
