-- The laws of storing a row of the pool: the ways out of `put`, and what a caller learns of a store, of the pool and of the format's
-- tables. What the words of a row hold after a store is in `RowWords`. Assumes nothing.
use mathlib.Core.Path.{◌≡◌, refl, sym, ap, subst, ◌∙◌}
use Rattle.std.specs.Prelude.{Option, None, Some, Result, Ok, Err}
use mathlib.Core.List.{List, [], ◌∷◌, ◌++◌}
use mathlib.Core.Logic.{⊎_elim}
use Prim.Native.Nat.{ℕ, suc, ◌+◌, ◌/◌, ◌-◌, ◌<◌}
use native.Mathlib.Omega.{arith}
use borrow.Author.Tests.{lt-ltb, le-ltb}
use lib.ListN.{length, length-append}
use Rattle.format.specs.Result.{Res, refused, done, ◌>>=◌}
use Rattle.format.specs.Tables.{Kind, Rows, Pooled, pooled, Tables, Room, with_pool, find, replace, put}
use Rattle.format.specs.Refusal.{number}
use Rattle.format.specs.declared.Refusal.{Refusal}
use Rattle.format.specs.declared.Refusal.TheVariants.{TableTooShort}
use Rattle.blocks.specs.declared.pool.Pooled as ours
use Rattle.blocks.specs.Tree.{linkable}
use Rattle.blocks.specs.Hashed.{pool_rows, key, links, val, HashHolds, Represents, PathLeft}
use Rattle.blocks.specs.Hashed.{FarPast, PlacedIn, Untaken}
use Rattle.blocks.specs.Hashed.{with_row, relinked, with_links, Linked}
use Rattle.blocks.specs.Pool.{meant_found, meant_stored, enter, Finds, Left, Entered, Stores}
use Rattle.blocks.proofs.Entering.{find-replace-same, find-replace-other, length-replace}
use Rattle.blocks.proofs.Entering.{find-append-same, find-append-other, find-enter-same, find-enter-other, put-enter}
use Rattle.blocks.proofs.Cases.{le-or-lt}
use Rattle.blocks.proofs.Paths.{linkable_le, linkable_lt}
use Rattle.blocks.proofs.Search.{all-full, tree_absent, unique, tip_first, tip_side}
use Rattle.blocks.proofs.Keeping.{Entering, Leading, stored-holds, leading_same, leading_linked}
use Rattle.blocks.proofs.Scanning.{key-address, placed-nowhere}
use Rattle.blocks.proofs.RowWords.{length-with_row, key-same, key-other, val_same, val-other, links-kept}
use Rattle.blocks.proofs.RowWords.{length-relinked, key-relinked, val-relinked, links-relinked-same, links-relinked-other}
use Rattle.blocks.proofs.Table.{holds_rows, represents_size, row_lt, row-own, placed_reaches, free-absent, full-absent}

-- ---- put

-- a table whose search ends at no row, none being free, is full
pub stores-full : (t : List ℕ) (p : Pooled) → FarPast t p.address None → Stores p (Err TableTooShort) t t
stores-full t p g =
    record {
      entered =
          λ {n} {q} r.
          let H = holds_rows r in
          let absent : find p.address q ≡ None = H.nowhere p.address (full-absent t p.address H g) in
          let full : length q ≡ pool_rows t =
          all-full (pool_rows t) (key t) (links t) (val t) q H λ k l.
          ⊎_elim
          (λ c. (g.scanned k c l).0)
          (λ c. ⊎_elim (λ d. H.taken k d c) (λ d. g.full k d) (le-or-lt (linkable (pool_rows t)) (k + links t 0 1)))
          (le-or-lt (linkable (pool_rows t)) k)
          in
          record { after = q; answer = simp (absent, le-ltb (length q) n (omega (arith, r.size))); table = refl };
    }

-- the row r of the table t takes p, and then the table is t''
module _ (t : List ℕ) (p : Pooled) (r : ℕ) (room : r < pool_rows t) (t'' : List ℕ) (size : length t'' ≡ length t) where
  module _
      (same_key : key t'' r ≡ suc p.address) (same-val : val t'' r ≡ p)
      (other_key : (j : ℕ) → (j ≡ r → ⊥) → key t'' j ≡ key t j) (other-val : (j : ℕ) → (j ≡ r → ⊥) → val t'' j ≡ val t j)
    where
      -- how the searches go on, whatever pool the table held
      abbrev Leads : {n : ℕ} {q : List Pooled} → Represents t n q → Type 0
      Leads {n} {q} h =
          (ends : 0 < key t r → key t r ≡ suc p.address) →
          (only : (j : ℕ) → j < pool_rows t → key t j ≡ suc p.address → j ≡ r) →
          Leading (pool_rows t) (key t) (links t) (val t) q (holds_rows h) p r (key t'') (links t'') (val t'') room ends only same_key
          same-val other_key other-val

      module _ {n : ℕ} {q : List Pooled} (h : Represents t n q) (leads : Leads h) where
        stored :
            (ends : 0 < key t r → key t r ≡ suc p.address) →
            (only : (j : ℕ) → j < pool_rows t → key t j ≡ suc p.address → j ≡ r) → (e : List Pooled) →
            Entering (pool_rows t) (key t) (links t) (val t) q (holds_rows h) p r (key t'') (links t'') (val t'') room ends only
            same_key same-val other_key other-val e →
            Represents t'' n e
        stored ends only e E =
            record {
              size = ap (λ (m : ℕ). m / 4) size ∙ h.size;
              holds =
                  subst (λ (m : ℕ). HashHolds m (key t'') (links t'') (val t'') e) h.size
                  (stored-holds (pool_rows t) (key t) (links t) (val t) q (holds_rows h) p r (key t'') (links t'') (val t'') room ends
                  only same_key same-val other_key other-val e E (leads ends only));
            }

        -- the address has the row
        pub entered_again : key t r ≡ suc p.address → ((j : ℕ) → j < pool_rows t → key t j ≡ suc p.address → j ≡ r) →
            Entered n p q (Ok tt) t t''
        entered_again u only =
            let found : find p.address q ≡ Some (val t r) = (holds_rows h).here p.address r room u in
            let stands : find p.address q ≡ None → ⊥ = λ e. let z : ◌≡◌ {A = ℕ} 0 1 = cc in omega arith in
            record {
              after = replace p q;
              answer = simp found;
              table =
                  stored (λ v. u) only (replace p q)
                  (record {
                    same = find-replace-same p q stands;
                    other = λ a. find-replace-other p a q;
                    again = λ v. length-replace p q;
                    new = λ z. absurd (omega arith);
                  });
            }

        -- the row was free, and no row had the address
        pub entered-new : key t r ≡ 0 → ((j : ℕ) → j < pool_rows t → key t j ≡ suc p.address → ⊥) → Entered n p q (Ok tt) t t''
        entered-new z none_has =
            let absent : find p.address q ≡ None = (holds_rows h).nowhere p.address none_has in
            let longer : length (q ++ (p ∷ [])) ≡ suc (length q) = simp length-append (omega arith) in
            let left : Represents t'' n (q ++ (p ∷ [])) =
            stored (λ u. absurd (omega arith)) (λ j l k. absurd (none_has j l k)) (q ++ (p ∷ []))
            (record {
              same = find-append-same p q absent;
              other = λ a. find-append-other p a q;
              again = λ v. absurd (omega arith);
              new = λ e. longer;
            })
            in
            record {
              after = q ++ (p ∷ []);
              answer = simp (absent, lt-ltb (length q) n (omega (arith, represents_size left, longer)));
              table = left;
            }

-- ---- the row that the search ended at

module _ (t : List ℕ) (p : Pooled) (i : ℕ) (g : PlacedIn t p.address i) where
  low : i < pool_rows t
  low = row_lt t p.address i g

  abbrev t'' : List ℕ
  t'' = with_row t i p

  leads-same :
      {n : ℕ} {q : List Pooled} (h : Represents t n q) →
      Leads t p i low t'' (length-with_row t i p) (key-same t i p low) (val_same t i p low) (key-other t i p) (val-other t i p) h
  leads-same {n} {q} h ends only =
      leading_same (pool_rows t) (key t) (links t) (val t) q (holds_rows h) p i (key t'') (links t'') (val t'') low ends only
      (key-same t i p low) (val_same t i p low) (key-other t i p) (val-other t i p) (links-kept t i p low)
      (placed_reaches t p.address i g (holds_rows h))

  again : {n : ℕ} {q : List Pooled} (h : Represents t n q) → 0 < key t i → Entered n p q (Ok tt) t t''
  again {n} {q} h u =
      let own : key t i ≡ suc p.address = row-own t p.address i g u in
      entered_again t p i low t'' (length-with_row t i p) (key-same t i p low) (val_same t i p low) (key-other t i p)
      (val-other t i p) h (leads-same h) own
      (λ j l k. unique (pool_rows t) (key t) (links t) (val t) q (holds_rows h) p.address j i l low k own)

  new : {n : ℕ} {q : List Pooled} (h : Represents t n q) → key t i ≡ 0 → Entered n p q (Ok tt) t t''
  new h z =
      entered-new t p i low t'' (length-with_row t i p) (key-same t i p low) (val_same t i p low) (key-other t i p)
      (val-other t i p) h (leads-same h) z (free-absent t p.address (holds_rows h) i g z)

  pub stores-done : Stores p (Ok tt) t t''
  stores-done = record { entered = λ h. ⊎_elim (again h) (λ z. new h (omega arith)) (le-or-lt 1 (key t i)) }

-- ---- the free row that the tree takes

module _ (t : List ℕ) (p : Pooled) (f : ℕ) (at s : ℕ) where
  abbrev u₁ : List ℕ
  u₁ = relinked t at s (f + 1)

  abbrev u₂ : List ℕ
  u₂ = with_links t f at s

  abbrev u₃ : List ℕ
  u₃ = with_row u₂ f p

  -- the words of the rows, where the links can be set
  module _ (low : at < pool_rows t) (some-row : 0 < pool_rows t) (linked : f < linkable (pool_rows t)) (side : s < 2) where
    rows₁ : pool_rows u₁ ≡ pool_rows t
    rows₁ = ap (λ (m : ℕ). m / 4) (length-relinked t at s (f + 1))

    size₂ : length u₂ ≡ length t
    size₂ = length-relinked u₁ 0 1 (linkable (pool_rows t) - f) ∙ length-relinked t at s (f + 1)

    rows₂ : pool_rows u₂ ≡ pool_rows t
    rows₂ = ap (λ (m : ℕ). m / 4) size₂

    size₃ : length u₃ ≡ length t
    size₃ = length-with_row u₂ f p ∙ size₂

    small₁ : f + 1 < 1073741824
    small₁ = omega (arith, linkable_lt (pool_rows t))

    small₂ : linkable (pool_rows t) - f < 1073741824
    small₂ = omega (arith, linkable_lt (pool_rows t))

    row₂ : f < pool_rows u₂
    row₂ = omega (arith, rows₂, linkable_le (pool_rows t))

    first₁ : 0 < pool_rows u₁
    first₁ = omega (arith, rows₁)

    key₂ : (j : ℕ) → key u₂ j ≡ key t j
    key₂ j = key-relinked u₁ 0 1 (linkable (pool_rows t) - f) first₁ small₂ j ∙ key-relinked t at s (f + 1) low small₁ j

    val₂ : (j : ℕ) → val u₂ j ≡ val t j
    val₂ j = val-relinked u₁ 0 1 (linkable (pool_rows t) - f) first₁ small₂ j ∙ val-relinked t at s (f + 1) low small₁ j

    same_key : key u₃ f ≡ suc p.address
    same_key = key-same u₂ f p row₂

    same-val : val u₃ f ≡ p
    same-val = val_same u₂ f p row₂

    other_key : (j : ℕ) → (j ≡ f → ⊥) → key u₃ j ≡ key t j
    other_key j n = key-other u₂ f p j n ∙ key₂ j

    other-val : (j : ℕ) → (j ≡ f → ⊥) → val u₃ j ≡ val t j
    other-val j n = val-other u₂ f p j n ∙ val₂ j

    count₃ : links u₃ 0 1 ≡ linkable (pool_rows t) - f
    count₃ = links-kept u₂ f p row₂ 0 1 ∙ links-relinked-same u₁ 0 1 (linkable (pool_rows t) - f) first₁ small₂

    other₃ : (j z : ℕ) → z < 2 → (j ≡ at → z ≡ s → ⊥) → (j ≡ 0 → z ≡ 1 → ⊥) → links u₃ j z ≡ links t j z
    other₃ j z l n o =
        links-kept u₂ f p row₂ j z
        ∙ links-relinked-other u₁ 0 1 (linkable (pool_rows t) - f) first₁ small₂ j z l (omega arith) o
        ∙ links-relinked-other t at s (f + 1) low small₁ j z l side n

    new₃ : (at ≡ 0 → s ≡ 0) → links u₃ at s ≡ suc f
    new₃ e =
        links-kept u₂ f p row₂ at s
        ∙ links-relinked-other u₁ 0 1 (linkable (pool_rows t) - f) first₁ small₂ at s side (omega arith)
        (λ h o. omega (arith, e h))
        ∙ links-relinked-same t at s (f + 1) low small₁ ∙ omega arith

  module _
      (U : Untaken t p.address f) (L : PathLeft t p.address at s)
    where
      linked : f < linkable (pool_rows t)
      linked = U.free.low

      some-row : 0 < pool_rows t
      some-row = omega (arith, linkable_le (pool_rows t))

      room : f < pool_rows t
      room = omega (arith, linkable_le (pool_rows t))

      module _ {n : ℕ} {q : List Pooled} (h : Represents t n q) where
        side : s < 2
        side =
            tip_side (pool_rows t) (key t) (links t) (val t) q (holds_rows h) f linked U.free.free p.address L.depth at s
            L.ends

        apart : at ≡ 0 → s ≡ 0
        apart =
            tip_first (pool_rows t) (key t) (links t) (val t) q (holds_rows h) f linked U.free.free p.address L.depth at s
            L.ends

        leads-linked :
            Leads t p f room u₃ (size₃ L.row some-row linked side) (same_key L.row some-row linked side)
            (same-val L.row some-row linked side) (other_key L.row some-row linked side) (other-val L.row some-row linked side) h
        leads-linked ends only =
            leading_linked (pool_rows t) (key t) (links t) (val t) q (holds_rows h) p f (key u₃) (links u₃) (val u₃) room ends only
            (same_key L.row some-row linked side) (same-val L.row some-row linked side) (other_key L.row some-row linked side)
            (other-val L.row some-row linked side) linked U.free.free U.free.above U.missed.near
            (λ d j e k. U.missed.path d j e (key-address t j p.address k)) at s (new₃ L.row some-row linked side apart)
            (count₃ L.row some-row linked side) (other₃ L.row some-row linked side) L.depth L.ends

        taken-new : Entered n p q (Ok tt) t u₃
        taken-new =
            entered-new t p f room u₃ (size₃ L.row some-row linked side) (same_key L.row some-row linked side)
            (same-val L.row some-row linked side) (other_key L.row some-row linked side) (other-val L.row some-row linked side) h
            leads-linked U.free.free
            (tree_absent (pool_rows t) (key t) (links t) (val t) q (holds_rows h) p.address U.missed.near
            (λ d j e k. U.missed.path d j e (key-address t j p.address k)) f linked U.free.free)

      pub stores-taken : Stores p (Ok tt) t u₃
      stores-taken = record { entered = λ h. taken-new h }

-- ---- the ways out of `put`

module _ (t : List ℕ) (p : Pooled) where
  -- a table of no rows
  pub stores-none : pool_rows t ≡ 0 → Stores p (Err TableTooShort) t t
  stores-none z = stores-full t p (placed-nowhere t p.address z)

  pub stores-linked : (f : ℕ) → Untaken t p.address f → (u : List ℕ) → Linked f p.address t u → Stores p (Ok tt) t (with_row u f p)
  stores-linked f h u k =
      let left = k.ends h.missed.path in
      rw left.1 (stores-taken t p f k.at k.side h left.0)

-- ---- for callers: what a store tells of the pool

module _ {p : Pooled} {r : Result (Unit {0}) Refusal} {t₀ t : List ℕ} (s : Stores p r t₀ t) {n : ℕ} {q : List Pooled} (h : Represents t₀ n q) where
  -- the pool after the store
  abbrev pub after : List Pooled
  after = (s.entered h).after

  pub put-fits : {u : Unit {0}} → r ≡ Ok u → enter n p q ≡ done after
  put-fits e = sym (s.entered h).answer ∙ ap (λ (x : Result (Unit {0}) Refusal). meant_stored x after) e

  pub put-done : {u : Unit {0}} → r ≡ Ok u → Represents t n after
  put-done e = subst (λ (x : Result (Unit {0}) Refusal). Left x n after t₀ t) e (s.entered h).table

  pub put_full : {x : Refusal} → r ≡ Err x → enter n p q ≡ refused (number x)
  put_full e = sym (s.entered h).answer ∙ ap (λ (x : Result (Unit {0}) Refusal). meant_stored x after) e

  pub put_kept : {x : Refusal} → r ≡ Err x → t ≡ t₀
  put_kept e = subst (λ (x : Result (Unit {0}) Refusal). Left x n after t₀ t) e (s.entered h).table

  -- what was pooled is found, and every other address as before
  pub find-put-same : {f : Option ours.Pooled} {u : Unit {0}} → r ≡ Ok u → Finds t p.address f → meant_found p.address f ≡ Some p
  find-put-same e m = m.found (put-done e) ∙ find-enter-same n p q (put-fits e)

  pub find-put-other : {a : ℕ} {f : Option ours.Pooled} {u : Unit {0}} → r ≡ Ok u → (p.address ≡ a → ⊥) → Finds t a f → meant_found a f ≡ find a q
  find-put-other {a} e d m = m.found (put-done e) ∙ find-enter-other n p q (put-fits e) a d

-- ---- and of the tables of a reading, whose pool the table held: the format's `put`

module _
    (room : Room) (u : Tables) (va : ℕ) (k : Kind) (x : Rows) {r : Result (Unit {0}) Refusal} {t₀ t : List ℕ} (s : Stores (pooled va k x) r t₀ t)
    (h : Represents t₀ room.pool u.pool)
  where
    abbrev in_tables : Res (List Pooled) → Res Tables
    in_tables w = w >>= λ q. done (with_pool q u)

    pub tables-done : {v : Unit {0}} → r ≡ Ok v → put room va k x u ≡ done (with_pool (after s h) u)
    tables-done e = put-enter room (pooled va k x) u ∙ ap in_tables (put-fits s h e)

    pub tables-full : {y : Refusal} → r ≡ Err y → put room va k x u ≡ refused (number y)
    tables-full e = put-enter room (pooled va k x) u ∙ ap in_tables (put_full s h e)
