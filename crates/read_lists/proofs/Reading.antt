-- The ways out of reading a list, over the tables of the format that are lent. In order: words in a table and their room; words
-- stored as new rows, and a list read anew; the list's row in the pool; the ways out; the four tables. Where the pool leads is in
-- `Leading`. Assumes nothing.
use mathlib.Core.Path.{◌≡◌, refl, sym, ap, ◌∙◌}
use mathlib.Core.Bool.{Bool, true, false}
use Rattle.std.specs.Prelude.{Option, None, Some, Result, Ok, Err, MatchResult, IsOkAnd}
use mathlib.Core.List.{List, map}
use Prim.Native.Nat.{ℕ, ◌+◌, ◌-◌, ◌*◌, ◌/◌, ◌≤◌}
use native.Mathlib.Nat.{mul_assoc}
use native.Mathlib.Omega.{arith}
use borrow.Author.Tests.{leb-true}
use lib.Dec.{leb}
use lib.ListN.{length, take, drop, replicate, length-append, length-replicate, length-drop}
use lib.Seq.{sets, take-append-le, drop-append-le}
use Rattle.format.specs.Result.{Res, refused, done, ◌>>=◌, need}
use Rattle.format.specs.Rows.{laid}
use Rattle.format.specs.Field.{words}
use Rattle.format.specs.Section.{Section, array}
use Rattle.format.specs.Tables.{ListTable, inverse_table, local_table, parents_table, children_table, width, words_per_row}
use Rattle.format.specs.Tables.{list, Rows, rows, Tables, Room, list_room, words_in, longer, add_words, list_at, find, put}
use Rattle.format.specs.Read.{Step, store_list, read_new, read_list}
use Rattle.tables.proofs.Laid.{sets-laid}
use Rattle.blocks.specs.Pool.{pool_row, meant_rows, Stores}
use Rattle.blocks.specs.declared.pool.Stored.{Stored}
use Rattle.format.specs.Refusal.{number, outcome}
use Rattle.format.specs.declared.Refusal.{Refusal}
use Rattle.blocks.proofs.Storing.{put-done, tables-done, tables-full}
use Rattle.fields.proofs.RunLaws.{length-each}
use Rattle.read_lists.specs.Lists.{twin, rows_in, meant_listed}
use Rattle.read_lists.specs.Storing.{taken_if, Stored as StoredBy, Takes, Copies, TakesNew, ReadsNewList}
use Rattle.read_lists.specs.Pooling.{way_of, Leads}
use Rattle.read_lists.specs.Reads.{LentList, HoldsList, ListComes, ReadsList}
use Rattle.read_lists.specs.declared.List as ours
use Rattle.read_lists.specs.declared.pooling.Way.{Way}
use Rattle.read_lists.specs.declared.pooling.Way.TheVariants.{Again, Copy, Over, New}
use Rattle.read_lists.proofs.Standing.{words_in-longer}
use Rattle.read_lists.proofs.Leading.{stands, pooling, goes, list_goes, copy_found}

-- ---- words in a table, and their room

-- the words that a table's rows have
abbrev pub capacity : ListTable → List ℕ → ℕ
capacity l t = words_per_row l * rows_in l t

capacity_le : (l : ListTable) (t : List ℕ) → capacity l t ≤ length t
capacity_le inverse_table t = omega arith
capacity_le local_table t = omega arith
capacity_le parents_table t = omega arith
capacity_le children_table t = omega arith

-- words that lie in the rows of a table, as they stand in it
part-laid : (w : List ℕ) (n f c : ℕ) → f + c ≤ length w → take c (drop f (laid w n)) ≡ take c (drop f w)
part-laid w n f c h =
    simp (drop-append-le f w (replicate (n - length w) 0) (omega arith))
    (take-append-le c (drop f w) (replicate (n - length w) 0) (simp length-drop (omega arith)))

-- a table that begins with its rows is long enough for them
rows-within : (w t : List ℕ) → t ≡ laid w (length t) → length w ≤ length t
rows-within w t e = omega (arith, simp (length-append, length-replicate) at (ap length e))

-- ---- a list that was stored, as one that stands

abbrev pub named : Result ours.List Refusal → Result (Option ours.List) Refusal
named (Ok x) = Ok (Some x)
named (Err x) = Err x

-- the code names it so
pub named_as :
    (r : Result ours.List Refusal) (q : Result (Option ours.List) Refusal) {P : ours.List → Option ours.List → Type 0} →
    ((x : ours.List) (k : Option ours.List) → P x k → k ≡ Some x) → MatchResult r (λ x. IsOkAnd q (P x)) (λ e. q ≡ Err e) → q ≡ named r
named_as (Ok x) (Ok k) h m = ap Ok (h x k m)
named_as (Ok x) (Err e) h m = absurd m
named_as (Err e) q h m = m

refused_named : (used : ℕ) {c : ℕ} (r : Result ours.List Refusal) → outcome r ≡ refused c → meant_listed used (named r) ≡ refused c
refused_named used (Ok x) e = let z : ◌≡◌ {A = ℕ} 0 1 = cc in absurd (omega arith)
refused_named used (Err x) e = let is : number x ≡ _ = cc in ap refused is

-- ---- each way, over tables that are lent

module _
    {l : ListTable} {room : Room} {u : Tables} {used : ℕ} {t₀ o p₀ : List ℕ} (s : Section) (h : LentList l room u used t₀ o p₀)
  where
    abbrev W : List ℕ
    W = words_in l u.lists

    comes_again : (x : Stored) → ListComes l room.pool (done (Some (meant_rows x), u)) used (Ok (Some (record { stored = x; used = used }))) t₀ t₀ p₀
    comes_again x = record { answer = rw h.size refl; tables = record { own = h.own; pool = h.pool } }

    module _ (w : List ℕ) {r : Result ours.List Refusal} {t : List ℕ} where
      store_by :
          (b : Bool) → leb (used + length w) (capacity l t₀) ≡ b → r ≡ taken_if b used (length w) → StoredBy b w used t₀ t →
          ListComes l room.pool (stands (need 1 b >>= λ x. done (rows (length W) (length w), add_words l w u))) used (named r) t₀ t p₀
      store_by true b e m =
          let fits : used + length w ≤ length t₀ =
          omega (arith, leb-true (used + length w) (capacity l t₀) b, capacity_le l t₀) in
          let long : length (words_in l (longer l w u.lists)) ≡ used + length w =
          ap length (words_in-longer l w u.lists) ∙ length-append W w ∙ ap (λ (x : ℕ). x + length w) (sym h.size) in
          record {
            answer = rw (e, long, ← h.size) refl;
            tables =
                record {
                  own =
                      rw (words_in-longer l w u.lists)
                      (m ∙ ap (λ (x : List ℕ). sets x used w) h.own ∙ sets-laid w W (length t₀) used (sym h.size) fits);
                  pool = h.pool;
                };
          }
      store_by false b e m = record { answer = rw e refl; tables = tt }

      comes_stored : Takes w (capacity l t₀) used r t₀ t → ListComes l room.pool (stands (store_list s room l w u)) used (named r) t₀ t p₀
      unfolding store_list
      comes_stored k =
          let test : leb (length W + length w) (words_per_row l * list_room l room) ≡ leb (used + length w) (capacity l t₀) =
          rw (← h.size, h.rows) refl in
          rw test (store_by (leb (used + length w) (capacity l t₀)) refl k.answer k.table)

    module _ (r : Result ours.List Refusal) {t : List ℕ} where
      new_by :
          (a : Res (List ℕ)) (k m : ℕ) → TakesNew a k m (capacity l t₀) used r t₀ t →
          ListComes l room.pool (stands (a >>= λ b. store_list s room l (words k m b) u)) used (named r) t₀ t p₀
      new_by (refused c) k m e = record { answer = refused_named used r e; tables = tt }
      new_by (done b) k m e = comes_stored (words k m b) e

      comes_new :
          (va n : ℕ) → ReadsNewList s va (width l) (words_per_row l * n) (capacity l t₀) used r t₀ t →
          ListComes l room.pool (stands (read_new s room l va n u)) used (named r) t₀ t p₀
      unfolding read_new
      comes_new va n k =
          rw (mul_assoc (width l) (words_per_row l) n)
          (new_by (array s va (width l * (words_per_row l * n))) (width l) (words_per_row l * n) k.takes)

-- ---- the list's row in the pool

pub both_same :
    {a b : Option Rows} {m n : ℕ} → ◌≡◌ {A = Res (Option Rows × ℕ)} (done (a, m)) (done (b, n)) → (a ≡ b) × (m ≡ n)
both_same {a} {b} {m} {n} e =
    let q : ◌≡◌ {A = Option Rows × ℕ} (a, m) (b, n) = cc in
    (ap (λ (x : Option Rows × ℕ). x.0) q, ap (λ (x : Option Rows × ℕ). x.1) q)

-- the answer for a list that was to be pooled
abbrev pub pooled_by : Result (Unit {0}) Refusal → ours.List → Result (Option ours.List) Refusal
pooled_by (Ok u) x = Ok (Some x)
pooled_by (Err y) x = Err y

module _ {l : ListTable} {used : ℕ} {t₀ t p₀ : List ℕ} (room : Room) (va : ℕ) where
  -- a list that was refused takes no row
  lost_by :
      (g : Step Rows) {y : Refusal} {p : List ℕ} → ListComes l room.pool (stands g) used (Err y) t₀ t p₀ →
      ListComes l room.pool (pooling room l va g) used (Err y) t₀ t p
  lost_by (refused c) m = record { answer = m.answer; tables = tt }
  lost_by (done (y, v)) m = let e = m.answer in let z : ◌≡◌ {A = ℕ} 0 1 = cc in absurd (omega arith)

  module _ {p : List ℕ} where
    put_by :
        (x : ours.List) (v : Tables) (d : Result (Unit {0}) Refusal) → Stores (pool_row va (list l) x.stored.first x.stored.count) d p₀ p →
        x.used ≡ length (words_in l v.lists) → HoldsList l room.pool v t₀ t p₀ →
        ListComes l room.pool (put room va (list l) (meant_rows x.stored) v >>= λ y. done (Some (meant_rows x.stored), y)) used (pooled_by d x) t₀ t p
    put_by x v (Ok u) w q h =
        rw (tables-done room v va (list l) (meant_rows x.stored) w h.pool refl)
        (record { answer = rw q refl; tables = record { own = h.own; pool = put-done w h.pool refl } })
    put_by x v (Err u) w q h =
        rw (tables-full room v va (list l) (meant_rows x.stored) w h.pool refl) (record { answer = refl; tables = tt })

    pool_by :
        (g : Step Rows) (x : ours.List) (d : Result (Unit {0}) Refusal) → ListComes l room.pool (stands g) used (Ok (Some x)) t₀ t p₀ →
        Stores (pool_row va (list l) x.stored.first x.stored.count) d p₀ p →
        ListComes l room.pool (pooling room l va g) used (pooled_by d x) t₀ t p
    pool_by (refused c) x d m w = let e = m.answer in let z : ◌≡◌ {A = ℕ} 0 1 = cc in absurd (omega arith)
    pool_by (done (y, v)) x d m w =
        let e = both_same m.answer in
        let is : meant_rows x.stored ≡ y = cc e.0 in
        rw (← is) (put_by x v d w e.1 m.tables)

-- ---- the ways out

module _ (s : Section) (l : ListTable) (va n used : ℕ) (o : List ℕ) {p₀ : List ℕ} where
  pub reads_absent : {t₀ : List ℕ} → va ≡ 0 → ReadsList s l va n used o (Ok None) t₀ t₀ p₀ p₀
  unfolding read_list
  reads_absent e =
      rw e
      (record {
        reads = λ h. record { answer = rw h.size refl; tables = record { own = h.own; pool = h.pool } };
      })

  -- the code's table stands for the list's
  module _ (z : va ≡ 0 → ⊥) {k₀ : ListTable} (same : k₀ ≡ l) {w : Way} (m : Leads p₀ k₀ va w) where
    module _ {t₀ : List ℕ} {room : Room} {u : Tables} (h : LentList l room u used t₀ o p₀) where
      leads_to : way_of l (find va u.pool) ≡ w
      leads_to = sym (rw same at (m.leads h.pool))

      reads_way : (x : Way) → w ≡ x → read_list s room l va n u ≡ goes s room l va n u x
      reads_way x e = list_goes s room l va n u z ∙ ap (goes s room l va n u) (leads_to ∙ e)

    pub reads_again :
        {t₀ : List ℕ} {x : Stored} → w ≡ Again x →
        ReadsList s l va n used o (Ok (Some (record { stored = x; used = used }))) t₀ t₀ p₀ p₀
    reads_again {t₀} {x} e = record { reads = λ h. rw (reads_way h (Again x) e) (comes_again s h x) }

    -- the list's own table, of words of a kind
    module _
        {A : Type 0} {number : A → ℕ} {numbers : List A → List ℕ} (each : (a : List A) → map number a ≡ numbers a) {k row : ℕ}
        (wide : width l ≡ k) (row-of : words_per_row l ≡ row) (rooms : (a : List ℕ) → rows_in l a ≡ length a / row) (t : List A)
      where
        capacity-is : row * (length t / row) ≡ capacity l (numbers t)
        capacity-is = rw (row-of, rooms (numbers t), length-each each t) refl

        pub reads_copy :
            {r : Result ours.List Refusal} {t' : List ℕ} {x : Stored} {y : Result ours.List Refusal} → w ≡ Copy x →
            Copies o x.first x.count (row * (length t / row)) used r (numbers t) t' → r ≡ y →
            ReadsList s l va n used o (named y) (numbers t) t' p₀ p₀
        reads_copy {t' = t'} {x = x} {y = y} e k d =
            record {
              reads =
                  λ {room} {u} h.
                  let i = copy_found l va u h.lists (leads_to h ∙ e) in
                  let there : x.first + x.count ≤ length o = omega (arith, rows-within (words_in (twin l) u.lists) o h.other) in
                  let part : take x.count (drop x.first o) ≡ list_at (twin l) (meant_rows x) u =
                  ap (λ (a : List ℕ). take x.count (drop x.first a)) h.other
                  ∙ part-laid (words_in (twin l) u.lists) (length o) x.first x.count i in
                  let takes : Takes (list_at (twin l) (meant_rows x) u) (capacity l (numbers t)) used y (numbers t) t' =
                  rw (capacity-is, part, d) at (k.copied there) in
                  rw (reads_way h (Copy x) e) (comes_stored s h (list_at (twin l) (meant_rows x) u) takes);
            }

        module _
            {r : Result ours.List Refusal} {t' : List ℕ} (new : ReadsNewList s va k (row * n) (row * (length t / row)) used r (numbers t) t')
          where
            comes :
                {y : Result ours.List Refusal} → r ≡ y → {room : Room} {u : Tables} → LentList l room u used (numbers t) o p₀ →
                ListComes l room.pool (stands (read_new s room l va n u)) used (named y) (numbers t) t' p₀
            comes {y} d h = comes_new s h y va n (rw (capacity-is, ← wide, ← row-of, d) at new)

            pub reads_over : {y : Result ours.List Refusal} → w ≡ Over → r ≡ y → ReadsList s l va n used o (named y) (numbers t) t' p₀ p₀
            reads_over e d = record { reads = λ h. rw (reads_way h Over e) (comes d h) }

            module _ (e : w ≡ New) where
              pub reads-new-refused : {y : Refusal} → r ≡ Err y → ReadsList s l va n used o (Err y) (numbers t) t' p₀ p₀
              reads-new-refused d =
                  record { reads = λ {room} {u} h. rw (reads_way h New e) (lost_by room va (read_new s room l va n u) (comes d h)) }

              pub reads-new :
                  {x : ours.List} {f g : Result (Unit {0}) Refusal} {p : List ℕ} → r ≡ Ok x → f ≡ g →
                  Stores (pool_row va (list k₀) x.stored.first x.stored.count) f p₀ p →
                  ReadsList s l va n used o (pooled_by g x) (numbers t) t' p₀ p
              reads-new {x} {f} {g} d i q =
                  record {
                    reads =
                        λ {room} {u} h.
                        rw (reads_way h New e) (pool_by room va (read_new s room l va n u) x g (comes d h) (rw (same, i) at q));
                  }
