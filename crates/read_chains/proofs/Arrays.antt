-- The ways out of `read_new` and `read_buckets`: an array that is yet to be read, and the array by its address. Assumes nothing.
use Prim.Native.Nat.{ℕ, zero, suc, ◌*◌, ◌/◌}
use native.Mathlib.Omega.{arith}
use mathlib.Core.Path.{◌≡◌, refl, sym, ap, subst, ◌∙◌}
use Rattle.std.specs.Prelude.{Option, None, Some, Result, Ok, Err, MatchResult, IsOkAnd}
use mathlib.Core.List.{List}
use lib.ListN.{length}
use Rattle.format.specs.Result.{Res, refused, done, ◌>>=◌}
use Rattle.format.specs.declared.Refusal.{Refusal}
use Rattle.format.specs.Refusal.{number}
use Rattle.format.specs.Field.{words}
use Rattle.format.specs.Section.{Section, array}
use Rattle.format.specs.Tables.{buckets, Rows, rows, pooled, Tables, Room, with_pool, find, as_kind}
use Rattle.format.specs.Read.{Step, read_buckets, buckets_from, read_bucket_array}
use Rattle.blocks.specs.Pool.{FindsAs, Stores, meant_cached}
use Rattle.blocks.specs.declared.pool.Stored.{Stored}
use Rattle.blocks.proofs.Storing.{after, put-fits, put-done, tables-done, tables-full}
use Rattle.read_chains.specs.Lent.{HoldsChains}
use Rattle.read_chains.specs.Arrays.{Bucketed, ReadsPointers, Arrayed, named, ReadsNewArray, ReadsBuckets}
use Rattle.read_chains.specs.declared.Used.{Used}
use Rattle.read_chains.specs.declared.Buckets.{Buckets}
use Rattle.read_chains.proofs.Lent.{linked-other}

-- ---- an array that is yet to be read

-- another row of the pool
holds-pooled :
    {room : Room} {u : Tables} {i k va : ℕ} {x : Rows} {b e p p' : List ℕ} {s : Result (Unit {0}) Refusal} {v : Unit {0}} (h : HoldsChains room u i k b e p)
    (w : Stores (pooled va buckets x) s p p') → s ≡ Ok v → HoldsChains room (with_pool (after w h.entries.pool) u) i k b e p'
holds-pooled {room} {u} {va = va} {x = x} h w d =
    let o = h.entries in
    record {
      entries =
          record {
            pool = put-done w o.pool d;
            linked = linked-other room.pool va buckets x refl o.linked (put-fits w o.pool d);
            rows = o.rows;
            count = o.count;
            table = o.table;
          };
      rows = h.rows;
      count = h.count;
      table = h.table;
    }

module _ (sec : Section) (va n filled used : ℕ) {b₀ e₀ p₀ : List ℕ} where
  -- its bytes do not stand
  pub new_lost : {x : Refusal} → refused (number x) ≡ array sec va (8 * n) → ReadsNewArray sec va n filled used (Err x) b₀ b₀ e₀ e₀ p₀ p₀
  unfolding buckets_from
  new_lost i = record { reads = λ h. rw (← i) refl }

  module _
      {bytes : List ℕ} (is : done bytes ≡ array sec va (8 * n)) (long : length bytes ≡ 8 * n) {r : Result Used Refusal} {b e p : List ℕ}
      (g : ReadsPointers sec bytes filled used r b₀ b e₀ e p₀ p)
    where
      bucketed :
          {x : Result Used Refusal} → r ≡ x → {room : Room} {t : Tables} → HoldsChains room t filled used b₀ e₀ p₀ →
          Bucketed room (read_buckets sec room (words 8 n bytes) t) done b e p x
      bucketed {x} j {room} {t} h =
          let count : length bytes / 8 ≡ n = omega (arith, long) in
          subst (λ (k : ℕ). Bucketed room (read_buckets sec room (words 8 k bytes) t) done b e p x) count
          (subst (λ (y : Result Used Refusal). Bucketed room (read_buckets sec room (words 8 (length bytes / 8) bytes) t) done b e p y) j
          (g.reads h))

      -- a bucket is refused
      pub new-refused : {x : Refusal} → r ≡ Err x → ReadsNewArray sec va n filled used (Err x) b₀ b e₀ e p₀ p
      unfolding buckets_from
      new-refused j = record { reads = λ h. rw (← is, bucketed j h) refl }

      module _
          {now : Used} (j : r ≡ Ok now) {s : Result (Unit {0}) Refusal} {p' : List ℕ} (w : Stores (pooled va buckets (rows filled n)) s p p')
        where
          -- the pool is full
          pub new-full : {y : Refusal} → s ≡ Err y → ReadsNewArray sec va n filled used (Err y) b₀ b e₀ e p₀ p'
          unfolding buckets_from
          new-full d =
              record {
                reads =
                    λ {room} {t} h.
                    let u = bucketed j h in
                    let full = tables-full room u.t va buckets (rows filled n) w u.holds.entries.pool d in
                    rw (← is, u.is, ← h.count, full) refl;
              }

          pub new-done :
              {v : Unit {0}} → s ≡ Ok v →
              ReadsNewArray sec va n filled used (Ok (record { stored = record { first = filled; count = n }; used = now })) b₀ b e₀ e
              p₀ p'
          unfolding buckets_from
          new-done d =
              record {
                reads =
                    λ {room} {t} h.
                    let u = bucketed j h in
                    let put = tables-done room u.t va buckets (rows filled n) w u.holds.entries.pool d in
                    record {
                      t = with_pool (after w u.holds.entries.pool) u.t;
                      is = rw (← is, u.is, ← h.count, put) refl;
                      holds = holds-pooled u.holds w d;
                    };
              }

-- ---- the array by its address

module _ (sec : Section) (va n filled used : ℕ) where
  pub buckets-none :
      {b e p : List ℕ} → va ≡ 0 → ReadsBuckets sec va n filled used (Ok None) b b e e p p
  unfolding read_bucket_array
  buckets-none z = rw z (record { reads = λ {room} {t} h. record { t = t; is = refl; holds = h } })

  array-read :
      (room : Room) (t : Tables) → (va ≡ 0 → ⊥) →
      read_bucket_array sec room va n t ≡ (as_kind buckets (find va t.pool) >>= buckets_from sec room va n t)
  unfolding read_bucket_array
  array-read room t z = by va z
    where
      by : (a : ℕ) → (a ≡ 0 → ⊥) →
          read_bucket_array sec room a n t ≡ (as_kind buckets (find a t.pool) >>= buckets_from sec room a n t)
      by zero z = absurd (z refl)
      by (suc a) z = refl

  module _ (z : va ≡ 0 → ⊥) {b₀ e₀ p₀ : List ℕ} {x : Result (Option Stored) Refusal} (m : FindsAs p₀ buckets va x) where
    -- what the pool holds decides
    asked :
        {y : Result (Option Stored) Refusal} → x ≡ y → {room : Room} {t : Tables} → HoldsChains room t filled used b₀ e₀ p₀ →
        read_bucket_array sec room va n t ≡ (meant_cached y >>= buckets_from sec room va n t)
    asked i {room} {t} h =
        array-read room t z ∙
        ap (λ (r : Res (Option Rows)). r >>= buckets_from sec room va n t)
        (sym (m.found h.entries.pool) ∙ ap meant_cached i)

    pub buckets_again :
        {s : Stored} → x ≡ Ok (Some s) →
        ReadsBuckets sec va n filled used (Ok (Some (record { stored = s; used = record { buckets = filled; entries = used } }))) b₀ b₀ e₀
        e₀ p₀ p₀
    unfolding buckets_from
    buckets_again i = record { reads = λ {room} {t} h. record { t = t; is = asked i h; holds = h } }

    pub buckets-other : {y : Refusal} → x ≡ Err y → ReadsBuckets sec va n filled used (Err y) b₀ b₀ e₀ e₀ p₀ p₀
    buckets-other i = record { reads = λ h. asked i h }

    pub buckets-new :
        {r : Result Buckets Refusal} {b e p : List ℕ} → x ≡ Ok None → ReadsNewArray sec va n filled used r b₀ b e₀ e p₀ p →
        ReadsBuckets sec va n filled used (named r) b₀ b e₀ e p₀ p
    buckets-new {r} {b} {e} {p} i g =
        record {
          reads =
              λ {room} {t} h.
              subst (λ (y : Step (Option Rows)). Arrayed room y filled used b e p (named r)) (sym (asked i h)) (g.reads h);
        }

-- a new array, named by the code
pub named_as :
    (r : Result Buckets Refusal) (q : Result (Option Buckets) Refusal) {P : Buckets → Option Buckets → Type 0} →
    ((x : Buckets) (k : Option Buckets) → P x k → k ≡ Some x) → MatchResult r (λ x. IsOkAnd q (P x)) (λ e. q ≡ Err e) → named r ≡ q
named_as (Ok x) (Ok k) h m = ap Ok (sym (h x k m))
named_as (Ok x) (Err e) h m = absurd m
named_as (Err e) q h m = sym m

-- an answer that is told another way
pub buckets_by :
    {sec : Section} {va n filled used : ℕ} {r x : Result (Option Buckets) Refusal} {b₀ b e₀ e p₀ p : List ℕ} →
    ReadsBuckets sec va n filled used r b₀ b e₀ e p₀ p → r ≡ x → ReadsBuckets sec va n filled used x b₀ b e₀ e p₀ p
buckets_by {sec} {va} {n} {filled} {used} {b₀ = b₀} {b = b} {e₀ = e₀} {e = e} {p₀ = p₀} {p = p} m i =
    subst (λ (y : Result (Option Buckets) Refusal). ReadsBuckets sec va n filled used y b₀ b e₀ e p₀ p) i m

-- ---- for callers: the promise of an answer that is known

pub buckets_as :
    {sec : Section} {va n filled used : ℕ} {r x : Result (Option Buckets) Refusal} {b₀ b e₀ e p₀ p : List ℕ} →
    ReadsBuckets sec va n filled used r b₀ b e₀ e p₀ p → r ≡ x → {room : Room} {t : Tables} →
    HoldsChains room t filled used b₀ e₀ p₀ → Arrayed room (read_bucket_array sec room va n t) filled used b e p x
buckets_as {sec} {va} {n} {filled} {used} {b = b} {e = e} {p = p} m i {room} {t} h =
    subst (λ (y : Result (Option Buckets) Refusal). Arrayed room (read_bucket_array sec room va n t) filled used b e p y) i (m.reads h)
