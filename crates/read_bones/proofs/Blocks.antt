-- The ways out of `new_block` and `read_block`. Assumes nothing.
use Rattle.std.proofs.Common.{◌≡◌, ℕ, zero, suc, ◌+◌, ◌-◌, ◌<◌, ◌≤◌, leb, List, ◌++◌, length, sym, refl, ap, ◌∙◌, subst, zero-add, arith, le-leb}
use Rattle.std.specs.Prelude.{Option, Some, None, Result, Ok, Err, MatchResult, IsOkAnd}
use borrow.Author.Tests.{lt-leb}
use Rattle.format.specs.Refusal.{number}
use Rattle.format.specs.Result.{Res, refused, done, ◌>>=◌, need}
use Rattle.format.specs.declared.Refusal.{Refusal}
use Rattle.format.specs.declared.Refusal.TheVariants.{BonesPointer}
use Rattle.format.specs.Section.{Section, Spot, cursor}
use Rattle.format.specs.Chains.{up_from}
use Rattle.format.specs.Tables.{block, Rows, rows, Tables, Room, find, as_kind, read_as}
use Rattle.format.specs.Read.{Step, read_bones, block_from, read_block, read_bones_at}
use Rattle.blocks.specs.Places.{rest}
use Rattle.blocks.specs.Pool.{pool_row, meant_cached, FindsAs, Stores}
use Rattle.blocks.specs.declared.pool.Stored.{Stored}
use Rattle.blocks.proofs.Standing.{rest-legal, rest-refused}
use Rattle.blocks.proofs.Storing.{after, put-done, tables-done, tables-full}
use Rattle.read_bones.specs.Lent.{leaving, InOrder}
use Rattle.read_bones.specs.Bones.{Before}
use Rattle.read_bones.specs.Blocks.{stretch_step, Grown, StretchTable, StretchLeft, ReadsBones}
use Rattle.read_bones.specs.Blocks.{named, NewBlock, ReadsBlock}
use Rattle.read_bones.specs.declared.Block.{Block}
use Rattle.read_bones.proofs.Pools.{found_again}
use Rattle.read_bones.proofs.Stretches.{up_from-append, length-up_from}

-- ---- `new_block`

-- the members after a block, in order again
members-after :
    (t : Tables) (n k : ℕ) → InOrder t → k ≡ length t.bones + n → t.members ++ up_from (length t.bones) n ≡ up_from 0 k
members-after t n k o e =
    ap (λ (l : List ℕ). l ++ up_from (length t.bones) n) o
    ∙ ap (λ (j : ℕ). up_from 0 (length t.bones) ++ up_from j n) (sym (zero-add (length t.bones)))
    ∙ up_from-append 0 (length t.bones) n ∙ ap (λ (j : ℕ). up_from 0 j) (sym e)

block_as :
    {f g : ℕ} {ms ns : List ℕ} (n : ℕ) (k : List ℕ → Tables) → f ≡ g → ms ≡ ns →
    ◌≡◌ {A = Step (Option Rows)} (done (Some (rows f n), k ms)) (done (Some (rows g n), k ns))
block_as {f} {g} {ms} n k e d = rw (e, d) refl

module _
    (sec : Section) (pointer n used : ℕ) (far : 16 ≤ pointer) (b₀ p₀ : List ℕ)
  where
    pub block_no_header : {x : Refusal} → refused (number x) ≡ rest sec (pointer - 16) → NewBlock sec pointer n used (Err x) b₀ b₀ p₀ p₀
    unfolding block_from
    block_no_header e =
        record {
          reads =
              λ room t before o.
              record {
                bones = t.bones;
                pool = t.pool;
                answer = rw (rest-refused sec (pointer - 16) _ e) refl;
                table = tt;
              };
        }

    module _
        {bytes : List ℕ} (e : done bytes ≡ rest sec (pointer - 16)) {r : Result ℕ Refusal} {b p₁ : List ℕ}
        (s : ReadsBones sec pointer n used r b₀ b p₀ p₁)
      where
        legal : (p : Spot) × (cursor sec (pointer - 16) ≡ done p)
        legal = rest-legal sec (pointer - 16) bytes e

        header-found : cursor sec (pointer - 16) ≡ done legal.0
        header-found = legal.1

        -- the bones of the block, which follow its header
        bones_read_lem :
            (room : Room) (t : Tables) (d : StretchLeft (read_bones sec room n pointer t) room t n r b p₁) {r' : Result ℕ Refusal} → r ≡ r' →
            read_bones sec room n (pointer - 16 + 16) t
            ≡ stretch_step r' (leaving t d.bones (t.members ++ up_from (length t.bones) n) d.pool)
        bones_read_lem room t d i =
            let k : pointer - 16 + 16 ≡ pointer = omega (arith, far) in
            let ms = t.members ++ up_from (length t.bones) n in
            rw k (d.answer ∙ ap (λ (y : Result ℕ Refusal). stretch_step y (leaving t d.bones ms d.pool)) i)

        pub block-bones-refused : {x : Refusal} → r ≡ Err x → NewBlock sec pointer n used (Err x) b₀ b p₀ p₁
        unfolding block_from
        block-bones-refused i =
            record {
              reads =
                  λ room t before o.
                  record {
                    bones = t.bones;
                    pool = t.pool;
                    answer = rw (header-found, bones_read_lem room t (s.reads room t before) i) refl;
                    table = tt;
                  };
            }

        module _
            {u : ℕ} (i : r ≡ Ok u) {x : Result (Unit {0}) Refusal} {p : List ℕ} (w : Stores (pool_row (pointer - 16) block used n) x p₁ p)
          where
            -- the bones read, and the store as the format makes it
            grown :
                (room : Room) (t : Tables) (d : StretchLeft (read_bones sec room n pointer t) room t n r b p₁) →
                Grown room t n u d.bones d.pool b p₁
            grown room t d = subst (λ (y : Result ℕ Refusal). StretchTable y room t n d.bones d.pool b p₁) i d.table

            as_stored :
                (t : Tables) → used ≡ length t.bones → InOrder t →
                Stores (pool_row (pointer - 16) block (length t.members) n) x p₁ p
            as_stored t e o =
                let k : used ≡ length t.members = e ∙ sym (ap length o ∙ length-up_from 0 (length t.bones)) in
                subst (λ (f : ℕ). Stores (pool_row (pointer - 16) block f n) x p₁ p) k w

            pub block-full : {y : Refusal} → x ≡ Err y → NewBlock sec pointer n used (Err y) b₀ b p₀ p
            unfolding block_from
            block-full f =
                record {
                  reads =
                      λ room t before o.
                      let d = s.reads room t before in
                      let ms = t.members ++ up_from (length t.bones) n in
                      record {
                        bones = t.bones;
                        pool = t.pool;
                        answer =
                            rw (
                              header-found,
                              bones_read_lem room t d i,
                              tables-full room (leaving t d.bones ms d.pool) (pointer - 16) block (rows (length t.members) n)
                                  (as_stored t before.count o) (grown room t d).lent.held f,
                            )
                            refl;
                        table = tt;
                      };
                }

            pub block-done : {v : Unit {0}} → x ≡ Ok v →
                NewBlock sec pointer n used (Ok (record { stored = record { first = used; count = n }; used = u })) b₀ b p₀ p
            unfolding block_from
            block-done f =
                record {
                  reads =
                      λ room t before o.
                      let d = s.reads room t before in
                      let v = grown room t d in
                      let w' = as_stored t before.count o in
                      let ms = t.members ++ up_from (length t.bones) n in
                      let q = after w' v.lent.held in
                      record {
                        bones = d.bones;
                        pool = q;
                        answer =
                            rw (
                              header-found,
                              bones_read_lem room t d i,
                              tables-done room (leaving t d.bones ms d.pool) (pointer - 16) block
                                  (rows (length t.members) n) w' v.lent.held f,
                            )
                            (block_as n (λ (l : List ℕ). leaving t d.bones l q)
                            (ap length o ∙ length-up_from 0 (length t.bones) ∙ sym before.count)
                            (members-after t n (length d.bones) o v.more));
                        table =
                            record {
                              lent = record { rows = v.lent.rows; held = put-done w' v.lent.held f };
                              count = v.count;
                              new = λ z. record { own = before.count; all = refl; more = v.count ∙ v.more };
                            };
                      };
                }

-- ---- `read_block`

-- tables as they were, their members in order
as_they_were : {a : Option Rows} (t : Tables) → InOrder t →
    ◌≡◌ {A = Step (Option Rows)} (done (a, t)) (done (a, leaving t t.bones (up_from 0 (length t.bones)) t.pool))
as_they_were {a} t o = ap (λ (ms : List ℕ). done (a, leaving t t.bones ms t.pool)) o

module _ (sec : Section) (pointer n used : ℕ) (b₀ p₀ : List ℕ) where
  pub block_null : pointer ≡ 0 → ReadsBlock sec pointer n used (Ok None) b₀ b₀ p₀ p₀
  unfolding read_bones_at
  block_null e =
      record {
        reads =
            λ room t before o.
            record { bones = t.bones; pool = t.pool; answer = rw e (as_they_were t o); table = before.lent };
      }

  -- from a pointer that is not 0
  points :
      (room : Room) (t : Tables) → (pointer ≡ 0 → ⊥) →
      read_bones_at sec room pointer n t ≡ (need 13 (leb 16 pointer) >>= λ u. read_block sec room (pointer - 16) n t)
  unfolding read_bones_at
  points room t h = by pointer h
    where
      by :
          (k : ℕ) → (k ≡ 0 → ⊥) →
          read_bones_at sec room k n t ≡ (need 13 (leb 16 k) >>= λ u. read_block sec room (k - 16) n t)
      by zero h = absurd (h refl)
      by (suc a) h = refl

  pub block-below : (pointer ≡ 0 → ⊥) → pointer < 16 → ReadsBlock sec pointer n used (Err BonesPointer) b₀ b₀ p₀ p₀
  block-below h l =
      record {
        reads =
            λ room t before o.
            record { bones = t.bones; pool = t.pool; answer = points room t h ∙ rw (lt-leb 16 pointer l) refl; table = tt };
      }

  module _ (far : 16 ≤ pointer) where
    -- the block's own address
    at_block : (room : Room) (t : Tables) → read_bones_at sec room pointer n t ≡ read_block sec room (pointer - 16) n t
    at_block room t = points room t (λ z. omega arith) ∙ rw (le-leb 16 pointer far) refl

    pub block-nowhere : pointer ≡ 16 → ReadsBlock sec pointer n used (Ok None) b₀ b₀ p₀ p₀
    unfolding read_block
    block-nowhere e =
        let z : pointer - 16 ≡ 0 = omega arith in
        record {
          reads =
              λ room t before o.
              record {
                bones = t.bones;
                pool = t.pool;
                answer = at_block room t ∙ rw z (as_they_were t o);
                table = before.lent;
              };
        }

    block_asks :
        (room : Room) (t : Tables) (va : ℕ) → (va ≡ 0 → ⊥) →
        read_block sec room va n t ≡ (read_as block va t >>= λ r. block_from sec room va n t r)
    unfolding read_block
    block_asks room t zero h = absurd (h refl)
    block_asks room t (suc a) h = refl

    module _ (h : pointer ≡ 16 → ⊥) {o : Result (Option Stored) Refusal} (m : FindsAs p₀ block (pointer - 16) o) where
      asked :
          (room : Room) (t : Tables) → Before room t pointer used b₀ p₀ → {o' : Result (Option Stored) Refusal} → o ≡ o' →
          read_bones_at sec room pointer n t ≡ (meant_cached o' >>= λ r. block_from sec room (pointer - 16) n t r)
      asked room t before e =
          at_block room t ∙ block_asks room t (pointer - 16) (λ z. h (omega arith))
          ∙ ap (λ (y : Res (Option Rows)). y >>= λ r. block_from sec room (pointer - 16) n t r)
          (sym (m.found before.lent.held) ∙ ap meant_cached e)

      pub block-unread :
          {r : Result Block Refusal} {b p : List ℕ} → o ≡ Ok None → NewBlock sec pointer n used r b₀ b p₀ p →
          ReadsBlock sec pointer n used (named r) b₀ b p₀ p
      block-unread e f =
          record {
            reads =
                λ room t before i.
                let d = f.reads room t before i in
                record { bones = d.bones; pool = d.pool; answer = asked room t before e ∙ d.answer; table = d.table };
          }

      pub block_again : {s : Stored} → o ≡ Ok (Some s) → ReadsBlock sec pointer n used (Ok (Some (record { stored = s; used = used }))) b₀ b₀ p₀ p₀
      unfolding block_from
      block_again {s} e =
          let f = s.first in
          let c = s.count in
          record {
            reads =
                λ room t before i.
                let g : as_kind block (find (pointer - 16) t.pool) ≡ done (Some (rows f c)) =
                sym (m.found before.lent.held) ∙ ap meant_cached e
                in
                let a = found_again block (find (pointer - 16) t.pool) (rows f c) g in
                record {
                  bones = t.bones;
                  pool = t.pool;
                  answer = asked room t before e ∙ as_they_were t i;
                  table =
                      record {
                        lent = before.lent;
                        count = before.count;
                        new = λ z. absurd (z a.row a.here a.same);
                      };
                };
          }

      pub block-other : {x : Refusal} → o ≡ Err x → ReadsBlock sec pointer n used (Err x) b₀ b₀ p₀ p₀
      block-other e =
          record {
            reads = λ room t before i. record { bones = t.bones; pool = t.pool; answer = asked room t before e; table = tt };
          }

-- a new block, named by the code
pub named_as :
    (r : Result Block Refusal) (q : Result (Option Block) Refusal) {P : Block → Option Block → Type 0} →
    ((x : Block) (k : Option Block) → P x k → k ≡ Some x) → MatchResult r (λ x. IsOkAnd q (P x)) (λ e. q ≡ Err e) → named r ≡ q
named_as (Ok x) (Ok k) h m = ap Ok (sym (h x k m))
named_as (Ok x) (Err e) h m = absurd m
named_as (Err e) q h m = sym m

-- an answer that is told another way
pub block_by :
    {sec : Section} {pointer n used : ℕ} {r x : Result (Option Block) Refusal} {b₀ b p₀ p : List ℕ} →
    ReadsBlock sec pointer n used r b₀ b p₀ p → r ≡ x → ReadsBlock sec pointer n used x b₀ b p₀ p
block_by {sec} {pointer} {n} {used} {b₀ = b₀} {b = b} {p₀ = p₀} {p = p} m i =
    subst (λ (y : Result (Option Block) Refusal). ReadsBlock sec pointer n used y b₀ b p₀ p) i m
