-- The laws of the lent tables: how many rows an entries table has; links that fit; tables with no rows; an entry and a bucket
-- stored, and an array pooled. Assumes nothing.
use Prim.Native.Nat.{ℕ, suc, min, ◌+◌, ◌*◌, ◌/◌, ◌%◌, ◌≤◌, ◌<◌}
use native.Mathlib.Nat.{mod-eq_of_lt, mul-suc}
use native.Mathlib.Omega.{arith}
use mathlib.Core.Path.{◌≡◌, refl, sym, ap, ◌∙◌}
use mathlib.Core.Bool.{Bool, true, false, cond}
use Rattle.std.specs.Prelude.{Some, Result, Ok}
use mathlib.Core.Logic.{⊎_elim}
use mathlib.Core.List.{List, [], ◌∷◌, ◌++◌, flat_map}
use borrow.Author.Tests.{ltb-true, ltb-false}
use Rattle.std.proofs.lemmas.Grind.{common_steps}
use lib.Dec.{ltb}
use lib.ListN.{length, length-append, length-replicate}
use lib.Seq.{sets, length-sets}
use Rattle.format.specs.Result.{done, ◌>>=◌, need}
use Rattle.format.specs.Deriving.{EntryRow, entry_row}
use Rattle.format.specs.Tables.{Kind, entry, Rows, rows, Pooled, pooled, Tables, Room, no_rows}
use Rattle.format.specs.Tables.{with_pool, add_entry, find, as_kind, same_kind}
use Rattle.format.specs.Rows.{laid, cleared, entry_words}
use Rattle.tables.proofs.Laid.{laid_none, sets-laid}
use Rattle.blocks.specs.Pool.{Stores, enter}
use Rattle.format.specs.declared.Refusal.{Refusal}
use Rattle.blocks.proofs.Cases.{eq-or-ne}
use Rattle.blocks.proofs.Table.{represents_zero}
use Rattle.blocks.proofs.Entering.{find-enter-same, find-enter-other}
use Rattle.blocks.proofs.Storing.{after, put-fits, put-done}
use Rattle.read_chains.specs.Lent.{entry_room, LinksFit, HoldsEntries, HoldsChains}

-- ---- the rows of an entries table

pub room-least : (n : ℕ) → min (n / 3) 4294967294 ≡ entry_room n
unfolding entry_room
room-least n = grind (arith, common_steps)

room_by :
    (b : Bool) (n : ℕ) → ltb (n / 3) 4294967294 ≡ b →
    (3 * cond b (n / 3) 4294967294 ≤ n) × (cond b (n / 3) 4294967294 ≤ 4294967294)
room_by true n e = (omega arith, omega (arith, ltb-true (n / 3) 4294967294 e))
room_by false n e = (omega (arith, ltb-false (n / 3) 4294967294 e), omega arith)

-- all the words of a row lie in the table
pub room-words : (n : ℕ) → 3 * entry_room n ≤ n
unfolding entry_room
room-words n = (room_by (ltb (n / 3) 4294967294) n refl).0

pub room_most : (n : ℕ) → entry_room n ≤ 4294967294
unfolding entry_room
room_most n = (room_by (ltb (n / 3) 4294967294) n refl).1

-- ---- links that fit

-- the remainder in the code is the row
pub link_row : {k : ℕ} (row : ℕ) → k ≡ row % 4294967295 + 1 → row < 4294967295 → k ≡ suc row
link_row row e h = e ∙ rw (mod-eq_of_lt h) (omega arith)

pub linked-none : LinksFit []
unfolding find as_kind
linked-none = record { fits = λ a s e. let z : ◌≡◌ {A = ℕ} 0 1 = cc in absurd (omega arith) }

-- a row entered keeps them, if it fits itself
linked-enter :
    (n : ℕ) (p : Pooled) {q e : List Pooled} → LinksFit q → enter n p q ≡ done e →
    ((s : Rows) → as_kind entry (Some p) ≡ done (Some s) → s.first < 4294967295) → LinksFit e
linked-enter n p {q} {e} l d fits =
    record {
      fits =
          λ a s g.
          ⊎_elim
          (λ h. fits s (sym (ap (as_kind entry) (sym (ap (λ (x : ℕ). find x e) h) ∙ find-enter-same n p q d)) ∙ g))
          (λ h. l.fits a s (sym (ap (as_kind entry) (find-enter-other n p q d a h)) ∙ g))
          (eq-or-ne p.address a);
    }

pub linked-entry :
    (n va row : ℕ) {q e : List Pooled} → LinksFit q → enter n (pooled va entry (rows row 1)) q ≡ done e → row < 4294967295 →
    LinksFit e
unfolding as_kind
linked-entry n va row l d h =
    linked-enter n (pooled va entry (rows row 1)) l d λ s g.
    let i : rows row 1 ≡ s = cc in
    omega (arith, ap (λ (x : Rows). x.first) i)

-- a row of another kind
pub linked-other :
    (n va : ℕ) (k : Kind) (x : Rows) → same_kind k entry ≡ false → {q e : List Pooled} → LinksFit q →
    enter n (pooled va k x) q ≡ done e → LinksFit e
unfolding as_kind
linked-other n va k x o l d = linked-enter n (pooled va k x) l d λ s g. absurd (by (same_kind k entry) o s g)
  where
    by : (b : Bool) → b ≡ false → (s : Rows) → (need 12 b >>= λ u. done (Some x)) ≡ done (Some s) → ⊥
    by true f s g = let z : ◌≡◌ {A = ℕ} 0 1 = cc in omega arith
    by false f s g = let z : ◌≡◌ {A = ℕ} 0 1 = cc in omega arith

-- ---- tables with no rows

pub holds-none :
    (room : Room) (b e p : ℕ) → room.buckets ≡ b → room.entries ≡ entry_room e → room.pool ≡ p / 4 →
    HoldsChains room no_rows 0 0 (cleared b) (cleared e) (cleared p)
unfolding flat_map
holds-none room b e p rb re rp =
    record {
      entries =
          record {
            pool = rw rp (represents_zero p);
            linked = linked-none;
            rows = re ∙ ap entry_room (sym (length-cleared e));
            count = refl;
            table = sym (laid_none e) ∙ ap (laid []) (sym (length-cleared e));
          };
      rows = rb ∙ sym (length-cleared b);
      count = refl;
      table = sym (laid_none b) ∙ ap (laid []) (sym (length-cleared b));
    }
  where
    length-cleared : (n : ℕ) → length (cleared n) ≡ n
    length-cleared n = simp length-replicate

-- ---- an entry stored

flat_map_snoc : (l : List EntryRow) (x : EntryRow) → flat_map entry_words (l ++ (x ∷ [])) ≡ flat_map entry_words l ++ entry_words x
unfolding flat_map
flat_map_snoc [] x = refl
flat_map_snoc (y ∷ l) x = simp (flat_map_snoc l x)

length-words : (l : List EntryRow) → length (flat_map entry_words l) ≡ 3 * length l
unfolding flat_map
length-words [] = refl
length-words (y ∷ l) = simp (length-words l, mul-suc) (omega arith)

module _
    {room : Room} {t : Tables} {va row : ℕ} {e₀ p₀ p : List ℕ} {s : Result (Unit {0}) Refusal} {v : Unit {0}} (h : HoldsEntries room t row e₀ p₀)
    (w : Stores (pooled va entry (rows row 1)) s p₀ p) (d : s ≡ Ok v) (fits : row < entry_room (length e₀))
  where
    -- the pool names the entry's row, which will be stored
    pub linked-more : LinksFit (after w h.pool)
    linked-more = linked-entry room.pool va row h.linked (put-fits w h.pool d) (omega (arith, room_most (length e₀)))

    pub holds-entry :
        (tag position link : ℕ) {e : List ℕ} → e ≡ sets e₀ (3 * row) (tag ∷ position ∷ link ∷ []) →
        HoldsEntries room (add_entry (entry_row tag position link) (with_pool (after w h.pool) t)) (row + 1) e p
    holds-entry tag position link {e} is =
        let n = length e₀ in
        let vs : List ℕ = tag ∷ position ∷ link ∷ [] in
        let words = flat_map entry_words t.chained.entries in
        let same : length e ≡ n = ap length is ∙ length-sets e₀ (3 * row) vs in
        let at : length words ≡ 3 * row = length-words t.chained.entries ∙ ap (λ (x : ℕ). 3 * x) (sym h.count) in
        record {
          pool = put-done w h.pool d;
          linked = linked-more;
          rows = h.rows ∙ ap entry_room (sym same);
          count = simp length-append (omega (arith, h.count));
          table =
              is ∙ ap (λ (x : List ℕ). sets x (3 * row) vs) h.table ∙
              sets-laid vs words n (3 * row) at (omega (arith, room-words n)) ∙
              ap (λ (x : List ℕ). laid x n) (sym (flat_map_snoc t.chained.entries (entry_row tag position link))) ∙
              ap (laid (flat_map entry_words (t.chained.entries ++ (entry_row tag position link ∷ [])))) (sym same);
        }
