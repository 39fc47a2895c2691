-- What a list of limits makes, piece by piece (docs/FORMAT.md, "Rows of the lent tables"). In order: one piece more; the loop that lays
-- pieces one behind the other. Assumes nothing.
use mathlib.Core.Path.{◌≡◌, refl, sym, ap, ◌∙◌}
use mathlib.Core.List.{List, [], ◌∷◌, ◌++◌, append-nil, append_assoc, flat_map}
use Prim.Native.Nat.{ℕ, suc, ◌+◌, ◌-◌, ◌*◌, ◌≤◌, ◌<◌}
use native.Mathlib.Nat.{mul-zero, mul-suc, mul-le-mul_left}
use native.Mathlib.Numerals.{add-one}
use native.Mathlib.Omega.{arith}
use lib.ListN.{length, get_or, take, drop, length-append, length-drop, drop_of_length-le}
use lib.Seq.{take-suc, take_all, take_at, drop-drop, drop_at, sets, sets-eq}
use Rattle.format.specs.Field.{word_bytes}
use Rattle.fields.proofs.WordLists.{word_bytes-append}

-- ---- one piece more

module _ {A : Type 0} (f : A → List ℕ) where
  flat_map-append : (a b : List A) → flat_map f (a ++ b) ≡ flat_map f a ++ flat_map f b
  unfolding flat_map
  flat_map-append [] b = refl
  flat_map-append (x ∷ a) b = simp (flat_map-append a b, append_assoc)

  pub made_suc : (xs : List A) (i : ℕ) (x : A) → i < length xs → flat_map f (take (i + 1) xs) ≡ flat_map f (take i xs) ++ f (get_or xs i x)
  unfolding flat_map
  made_suc xs i x h = rw (add-one, take-suc xs i x h, flat_map-append) (simp append-nil)

-- ---- the loop

-- the pieces of n that the first i make, and behind them what the list was
pub record Laid {A : Type 0} (f : A → List ℕ) (n : ℕ) (xs : List A) (d₀ d : List ℕ) (at i : ℕ) : Type 0 where
  pub all : length d₀ ≡ n * length xs
  pub place : at ≡ n * i
  pub size : length (flat_map f (take i xs)) ≡ at
  pub is : d ≡ flat_map f (take i xs) ++ drop at d₀

pub laid_none : {A : Type 0} (f : A → List ℕ) (n : ℕ) (xs : List A) (d : List ℕ) → length d ≡ n * length xs → Laid f n xs d d 0 0
unfolding flat_map
laid_none f n xs d e = record { all = e; place = sym (mul-zero n); size = refl; is = refl }

module _ {A : Type 0} {f : A → List ℕ} {n : ℕ} {xs : List A} {d₀ d : List ℕ} {at i : ℕ} (l : Laid f n xs d₀ d at i) where
  -- the next piece has room
  pub laid-room : i < length xs → at + n ≤ length d₀
  laid-room h =
      let m : n * suc i ≤ n * length xs = mul-le-mul_left n h in
      omega (arith, l.place, l.all, m, mul-suc n i)

  pub laid_length : i < length xs → length d ≡ length d₀
  laid_length h =
      let m = laid-room h in
      ap length l.is ∙ simp (length-append, l.size, length-drop) (omega arith)

  pub laid-next :
      (x : A) {p : List ℕ} {d' : List ℕ} → i < length xs → x ≡ get_or xs i x → p ≡ f x → length p ≡ n → d' ≡ sets d at p →
      Laid f n xs d₀ d' (at + n) (i + 1)
  laid-next x {p} {d'} h e ep np ed =
      let y : List ℕ = flat_map f (take i xs) in
      let room = laid-room h in
      let same = laid_length h in
      let more : flat_map f (take (i + 1) xs) ≡ y ++ p = made_suc f xs i x h ∙ ap (λ (q : List ℕ). y ++ q) (ap f (sym e) ∙ sym ep) in
      let front : take at d ≡ y = ap (take at) l.is ∙ take_at y (drop at d₀) at l.size in
      let rest : drop at d ≡ drop at d₀ = ap (drop at) l.is ∙ drop_at y (drop at d₀) at l.size in
      let behind : drop (at + n) d ≡ drop (at + n) d₀ = sym (drop-drop n at d) ∙ ap (drop n) rest ∙ drop-drop n at d₀ in
      let stored : sets d at p ≡ take at d ++ p ++ drop (at + length p) d = sets-eq p d at (omega (arith, np, same, room)) in
      record {
        all = l.all;
        place = rw (l.place, add-one, mul-suc) refl;
        size = ap length more ∙ simp (length-append, l.size, np);
        is = ed ∙ stored ∙ rw (np, front, behind, more) refl;
      }

  pub laid_all : length xs ≤ i → d ≡ flat_map f xs
  laid_all h =
      let whole : take i xs ≡ xs = take_all i xs h in
      let m : n * length xs ≤ n * i = mul-le-mul_left n h in
      let none : drop at d₀ ≡ [] = drop_of_length-le d₀ {i = at} (omega (arith, l.all, l.place)) in
      l.is ∙ rw (whole, none) (append-nil (flat_map f xs))

-- a piece copied over a part of the list
pub sets_mid :
    (d p : List ℕ) (at n : ℕ) {q : List ℕ} → length p ≡ n → at + n ≤ length d → q ≡ p →
    take at d ++ (q ++ drop (at + n - at) (drop at d)) ≡ sets d at p
sets_mid d p at n e h eq =
    let k : at + n - at ≡ n = omega arith in
    let stored : sets d at p ≡ take at d ++ p ++ drop (at + length p) d = sets-eq p d at (omega (arith, e)) in
    rw (eq, k, stored, e, ← drop-drop n at d) (sym (append_assoc (take at d) p (drop n (drop at d))))

-- ---- pieces of bytes

pub word_bytes-made : {A : Type 0} (g : A → List ℕ) (xs : List A) → flat_map (λ x. word_bytes 4 (g x)) xs ≡ word_bytes 4 (flat_map g xs)
unfolding flat_map word_bytes
word_bytes-made g [] = refl
word_bytes-made g (x ∷ xs) = rw (word_bytes-append 4 (g x) (flat_map g xs), word_bytes-made g xs) refl
