-- The loop of `read_bones`: bones one behind the other, each in the next row. Assumes nothing.
use Rattle.std.proofs.Common.{◌≡◌, ℕ, zero, suc, ◌+◌, ◌-◌, ◌%◌, ◌^◌, ◌<◌, ◌≤◌, List, [], ◌∷◌, ◌++◌, length, sym, refl, ap, ◌∙◌, subst, append_assoc, append-nil, le_refl, add-zero, zero-add, arith}
use native.Mathlib.Nat.{sub-zero}
use Rattle.format.specs.Result.{refused, done}
use Rattle.format.specs.declared.Refusal.{Refusal}
use Rattle.format.specs.Section.{Section, Place}
use Rattle.format.specs.Bone.{Bone}
use Rattle.format.specs.Chains.{up_from}
use Rattle.format.specs.Tables.{Pooled, Tables, Room, add_member}
use Rattle.format.specs.Read.{read_bone, read_bones}
use Rattle.read_bones.specs.Lent.{SameTables, LentBones, leaving, Unread}
use Rattle.read_bones.specs.Bones.{row_step, RowTable, RowLeft, BoneLeft, Before, ReadsBone}
use Rattle.read_bones.specs.Blocks.{ReadsBones}
use Rattle.read_bones.specs.declared.bone.Row.{Row}
use Rattle.read_bones.specs.declared.Tables as Lent
use Rattle.std.specs.Prelude.{Result, Ok, Err}

-- ---- rows in order

pub up_from-append : (i m n : ℕ) → up_from i m ++ up_from (i + m) n ≡ up_from i (m + n)
unfolding up_from
up_from-append i zero n = simp (add-zero, zero-add)
up_from-append i (suc m) n =
    let j : i + suc m ≡ suc i + m = omega arith in
    let k : suc m + n ≡ suc (m + n) = omega arith in
    rw (j, k) (ap (λ (l : List ℕ). i ∷ l) (up_from-append (suc i) m n))

up_from_one : (i : ℕ) → up_from i 1 ≡ i ∷ []
unfolding up_from
up_from_one i = refl

pub length-up_from : (i n : ℕ) → length (up_from i n) ≡ n
unfolding up_from
length-up_from i zero = refl
length-up_from i (suc n) = ap suc (length-up_from (suc i) n)

-- one member more
member_more : (ms : List ℕ) (f i x : ℕ) → x ≡ f + i → (ms ++ up_from f i) ++ (x ∷ []) ≡ ms ++ up_from f (i + 1)
member_more ms f i x e =
    append_assoc ms (up_from f i) (x ∷ [])
    ∙ ap (λ (l : List ℕ). ms ++ l)
    (ap (λ (k : ℕ). up_from f i ++ (k ∷ [])) e ∙ ap (λ (l : List ℕ). up_from f i ++ l) (sym (up_from_one (f + i)))
    ∙ up_from-append f i 1)

-- ---- one bone of several

module _ (sec : Section) (room : Room) (n at : ℕ) (t : Tables) where
  one_read :
      {k x : ℕ} {t'' : Tables} → n ≡ suc k → read_bone sec room at t ≡ done (x, t'') →
      read_bones sec room n at t ≡ read_bones sec room k (at + 80) (add_member x t'')
  unfolding read_bones
  one_read e f = rw e (rw f refl)

  one_refused : {k c : ℕ} → n ≡ suc k → read_bone sec room at t ≡ refused c → read_bones sec room n at t ≡ refused c
  unfolding read_bones
  one_refused e f = rw e (rw f refl)

  none_left : n ≡ 0 → read_bones sec room n at t ≡ done t
  unfolding read_bones
  none_left e = rw e refl

-- ---- the tables lent

pub same_none : (v : Lent.Tables) → SameTables v v
same_none v = record { bones = record { name = refl; size = refl }; pool = record { name = refl; size = refl } }

pub same-more : {v w x : Lent.Tables} → SameTables v w → SameTables w x → SameTables v x
same-more s t =
    record {
      bones = record { name = t.bones.name ∙ s.bones.name; size = t.bones.size ∙ s.bones.size };
      pool = record { name = t.pool.name ∙ s.pool.name; size = t.pool.size ∙ s.pool.size };
    }

-- ---- the loop

-- i bones are read: what is left finds what the whole does
pub record Rest (sec : Section) (room : Room) (va n : ℕ) (t : Tables) (at row i : ℕ) (b p : List ℕ) : Type 0 where
  pub bones : List (Bone Place)
  pub pool : List Pooled
  pub lent : LentBones room bones pool b p
  pub count : row ≡ length bones
  pub more : length bones ≡ length t.bones + i
  pub unread : Unread at pool
  pub left :
      read_bones sec room n va t
      ≡ read_bones sec room (n - i) at (leaving t bones (t.members ++ up_from (length t.bones) i) pool)

pub record Going (sec : Section) (va n used : ℕ) (b₀ p₀ : List ℕ) (at row i : ℕ) (b p : List ℕ) : Type 0 where
  pub within : i ≤ n
  pub same-bones : length b ≡ length b₀
  pub same_pool_lem : length p ≡ length p₀
  pub rest : (room : Room) (t : Tables) → Before room t va used b₀ p₀ → Rest sec room va n t at row i b p

pub going_none : {sec : Section} (va n used : ℕ) (b p : List ℕ) → Going sec va n used b p va used 0 b p
unfolding up_from
going_none va n used b p =
    record {
      within = omega arith;
      same-bones = refl;
      same_pool_lem = refl;
      rest =
          λ room t h.
          record {
            bones = t.bones;
            pool = t.pool;
            lent = h.lent;
            count = h.count;
            more = sym (add-zero (length t.bones));
            unread = h.unread;
            left = simp (sub-zero, append-nil);
          };
    }

module _
    {sec : Section} {va n used : ℕ} {b₀ p₀ : List ℕ} {at row i : ℕ} {b p : List ℕ} (g : Going sec va n used b₀ p₀ at row i b p)
  where
    module _ (l : i < n) {r : Result Row Refusal} {b' p' : List ℕ} (s : ReadsBone sec at row r b b' p p') where
      -- the tables that the next bone finds
      abbrev reached : (room : Room) (t : Tables) → Before room t va used b₀ p₀ → Tables
      reached room t h =
          let x = g.rest room t h in leaving t x.bones (t.members ++ up_from (length t.bones) i) x.pool

      next :
          (room : Room) (t : Tables) (h : Before room t va used b₀ p₀) →
          BoneLeft (read_bone sec room at (reached room t h)) room (reached room t h) at at r b' p'
      next room t h =
          let x = g.rest room t h in
          s.reads room (reached room t h) at (record { lent = x.lent; count = x.count; unread = x.unread })

      pub going_refused : {x : Refusal} → r ≡ Err x → ReadsBones sec va n used (Err x) b₀ b' p₀ p'
      going_refused e =
          record {
            reads =
                λ room t h.
                let d = next room t h in
                let ms = t.members ++ up_from (length t.bones) i in
                let f = d.answer ∙ ap (λ (y : Result Row Refusal). row_step y (leaving t d.bones ms d.pool)) e in
                let k : n - i ≡ suc (n - (i + 1)) = omega arith in
                record {
                  bones = t.bones;
                  pool = t.pool;
                  answer = (g.rest room t h).left ∙ one_refused sec room (n - i) at (reached room t h) k f;
                  table = tt;
                };
          }

      pub going_more :
          {read : Row} {at' : ℕ} → r ≡ Ok read → at' ≡ (at + 80) % 2 ^ 64 → length b' ≡ length b → length p' ≡ length p →
          Going sec va n used b₀ p₀ at' read.used (i + 1) b' p'
      going_more {read} {at'} e ea lb lp =
          let x = read.row in
          let u = read.used in
          record {
            within = omega arith;
            same-bones = lb ∙ g.same-bones;
            same_pool_lem = lp ∙ g.same_pool_lem;
            rest =
                λ room t h.
                let y = g.rest room t h in
                let d = next room t h in
                let ms = t.members ++ up_from (length t.bones) i in
                let f = d.answer ∙ ap (λ (z : Result Row Refusal). row_step z (leaving t d.bones ms d.pool)) e in
                let v : RowLeft room (reached room t h) at at x u d.bones d.pool b' p' =
                subst (λ (z : Result Row Refusal). RowTable z room (reached room t h) at at d.bones d.pool b' p') e d.table
                in
                let w = v.new (le_refl at) in
                let low = w.low in
                let ia : at + 80 ≡ at' = omega (arith, ea) in
                let k : n - i ≡ suc (n - (i + 1)) = omega arith in
                let im : ms ++ (x ∷ []) ≡ t.members ++ up_from (length t.bones) (i + 1) =
                member_more t.members (length t.bones) i x (w.own ∙ y.more)
                in
                record {
                  bones = d.bones;
                  pool = d.pool;
                  lent = v.lent;
                  count = v.count;
                  more = omega (arith, w.more, y.more);
                  unread = v.unread at' (omega arith) (omega arith);
                  left =
                      y.left ∙ one_read sec room (n - i) at (reached room t h) k f
                      ∙ ap (λ (z : ℕ). read_bones sec room (n - (i + 1)) z (leaving t d.bones (ms ++ (x ∷ [])) d.pool)) ia
                      ∙ ap (λ (z : List ℕ). read_bones sec room (n - (i + 1)) at' (leaving t d.bones z d.pool)) im;
                };
          }

    pub going_all : n ≤ i → ReadsBones sec va n used (Ok row) b₀ b p₀ p
    going_all l =
        record {
          reads =
              λ room t h.
              let y = g.rest room t h in
              let k : i ≡ n = omega (arith, g.within) in
              let z : n - i ≡ 0 = omega arith in
              record {
                bones = y.bones;
                pool = y.pool;
                answer =
                    y.left
                    ∙ none_left sec room (n - i) at (leaving t y.bones (t.members ++ up_from (length t.bones) i) y.pool) z
                    ∙ ap (λ (j : ℕ). done (leaving t y.bones (t.members ++ up_from (length t.bones) j) y.pool)) k;
                table = record { lent = y.lent; count = y.count; more = y.more ∙ ap (λ (j : ℕ). length t.bones + j) k };
              };
        }
