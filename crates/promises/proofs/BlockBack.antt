-- The bones block that the writer lays is read back, whether or not there are bones. Assumes nothing.
use mathlib.Core.Path.{◌≡◌, refl, ap, ◌∙◌, subst}
use mathlib.Core.Logic.{inl, inr, ◌≢◌}
use Prim.Native.Nat.{ℕ, zero, suc, ◌+◌, ◌*◌, ◌-◌, ◌≤◌, ◌<◌}
use native.Mathlib.Nat.{le_refl, add_assoc}
use native.Mathlib.Omega.{arith}
use Rattle.std.specs.Prelude.{None, Some}
use mathlib.Core.List.{List, [], ◌∷◌}
use lib.ListN.{length}
use lib.Dec.{leb, le→leb}
use Rattle.format.specs.Result.{done}
use Rattle.format.specs.Field.{Each, lay}
use Rattle.format.specs.Section.{Section, window}
use Rattle.format.specs.Tables.{block, rows, Tables, Room, find, put}
use Rattle.format.specs.Read.{read_bones, block_from, read_block, read_bones_at}
use Rattle.format.specs.Layout.{Bytes, NamedBone, base, pointer, bone_bytes, block_bytes, block_size, all_names}
use Rattle.format.proofs.Results.{met}
use Rattle.promises.specs.Meaning.{BoneFits}
use Rattle.format.proofs.Parts.{At, at-fits, at_first, at_second, alone, cursor-system}
use Rattle.promises.proofs.LayoutParts.{block_items, length-block_items}
use Rattle.promises.proofs.LayoutSize.{GoodNames}
use Rattle.promises.proofs.Fresh.{Pooling, Goes, Below, find-fresh, read_as-fresh, put_goes}
use Rattle.promises.proofs.BucketsBack.{listed_of}
use Rattle.promises.proofs.NamesBack.{placed_rows}
use Rattle.promises.proofs.BonesBack.{Clear, grown, grown_none, BonesGo, bones_go}

-- from the pointer to the first bone to a block that nothing was pooled at
read_block-at :
    (sec : Section) (room : Room) (a n : ℕ) (t : Tables) → a ≢ 0 → find a t.pool ≡ None →
    read_block sec room a n t ≡ block_from sec room a n t None
unfolding read_block
read_block-at sec room zero n t z e = absurd (z refl)
read_block-at sec room (suc a) n t z e = rw (read_as-fresh block (suc a) t e)

read_bones_at-at :
    (sec : Section) (room : Room) (v a n : ℕ) (t : Tables) → v ≡ a + 16 → read_bones_at sec room v n t ≡ read_block sec room a n t
unfolding read_bones_at
read_bones_at-at sec room zero a n t e = absurd (omega (arith, e))
read_bones_at-at sec room (suc v) a n t e =
    met 13 (leb 16 (suc v)) (read_block sec room (suc v - 16) n t) (le→leb 16 (suc v) (omega (arith, e)))
    ∙ ap (λ x. read_block sec room x n t) (let q : suc v - 16 ≡ a = omega (arith, e) in q)

module _ (sys gfx : Bytes) (small : length sys < window) (room : Room) where
  -- what reading the block of some bones comes to
  abbrev pub BlockGoes : ℕ → ℕ → List NamedBone → Tables → Type 0
  BlockGoes boff noff bs t =
      Goes (read_bones_at (alone sys gfx) room (pointer (base + boff + 16) (length bs)) (length bs) t)
      (λ ps. (listed_of (length bs) (rows (length t.members) (length bs)), grown t (placed_rows (base + noff) bs) ps))
      (Below (base + noff + length (all_names bs))) (length t.pool + 2 * length bs + 1)

  pub block_goes :
      (boff noff : ℕ) (bs : List NamedBone) (t : Tables) → Each BoneFits bs → GoodNames bs →
      At sys boff (block_bytes (base + noff) bs) → At sys noff (all_names bs) → Pooling (Below (base + boff)) t.pool →
      boff + block_size (length bs) ≤ noff → length t.pool + 2 * length bs + 1 ≤ room.pool →
      length t.bones + length bs ≤ room.bones → BlockGoes boff noff bs t
  unfolding pointer read_bones_at block_from block_bytes block_size
  block_goes boff noff [] t f g a an c l r m =
      record {
        pool = t.pool;
        gives = ap (λ (x : Tables). done (None, x)) (grown_none t);
        holds = λ p x. omega (arith, c p x, l);
        count = omega arith;
      }
  block_goes boff noff (b ∷ bs) t f g a an c l r m =
      stored
      (bones_go sys gfx small room (base + noff) (boff + 16) noff (b ∷ bs) t f g split.1 an (omega arith)
      (le_refl (base + noff)) (λ p x. inl (omega (arith, c p x))) (m, omega arith))
    where
      va : ℕ
      va = base + boff

      n : ℕ
      n = suc (length bs)

      top : ℕ
      top = base + noff + length (all_names (b ∷ bs))

      -- the block's record, and the bones behind it
      split : At sys boff (lay (block_items n)) × At sys (boff + 16) (bone_bytes (base + noff) (b ∷ bs))
      split = (
        at_first (lay (block_items n)) (bone_bytes (base + noff) (b ∷ bs)) a,
        subst (λ k. At sys (boff + k) (bone_bytes (base + noff) (b ∷ bs))) (length-block_items n)
            (at_second (lay (block_items n)) (bone_bytes (base + noff) (b ∷ bs)) a),
      )

      from :
          {u v : Tables} → read_bones (alone sys gfx) room n (base + (boff + 16)) t ≡ done u →
          put room va block (rows (length t.members) n) u ≡ done v →
          block_from (alone sys gfx) room va n t None ≡ done (Some (rows (length t.members) n), v)
      from e₁ e₂ =
          let s = split.0 in
          let k = length-block_items n in
          rw (cursor-system sys gfx boff (omega (arith, at-fits s, k)) (omega (arith, at-fits s)))
          (rw (ap (λ v. read_bones (alone sys gfx) room n v t) (add_assoc base boff 16) ∙ e₁) (rw e₂))

      stored : BonesGo sys gfx small room (base + noff) (boff + 16) noff (b ∷ bs) t → BlockGoes boff noff (b ∷ bs) t
      stored k =
          let z =
          put_goes (Clear (base + (boff + 16) + 80 * n) (base + noff) top) (Below top) below room va block
          (rows (length t.members) n) (grown t (placed_rows (base + noff) (b ∷ bs)) k.pool) (omega arith) k.holds
          (omega (arith, k.count)) in
          record {
            pool = z.pool;
            gives = read_bones_at-at (alone sys gfx) room (va + 16) va n t refl
                ∙ read_block-at (alone sys gfx) room va n t (λ x. omega (arith, x))
                (find-fresh (Below va) va t.pool c (λ x. omega (arith, x)))
                ∙ from k.gives z.gives;
            holds = z.holds;
            count = omega (arith, z.count, k.count);
          }
        where
          below : (x : ℕ) → Clear (base + (boff + 16) + 80 * n) (base + noff) top x → Below top x
          below x (inl y) = omega arith
          below x (inr y) = y.1
