-- What an answer of the check and of the writer says of the format's. Assumes nothing.
use Prim.Native.Nat.{ℕ, ◌+◌, ◌*◌, ◌≤◌}
use native.Mathlib.Omega.{arith}
use mathlib.Core.Path.{◌≡◌, refl, sym, ap, ◌∙◌}
use Rattle.std.specs.Prelude.{Option, Some}
use mathlib.Core.List.{List}
use borrow.Author.Tests.{le-leb}
use lib.ListN.{length, drop}
use lib.Dec.{T, leb, leb→le}
use lib.Seq.{sets, sets-eq, length-sets, take_at}
use Rattle.format.specs.Result.{Res, refused, done, ◌>>=◌}
use Rattle.format.specs.Field.{which_list}
use Rattle.format.specs.Section.{Section, Place}
use Rattle.format.specs.Bone.{Bone, Words4}
use Rattle.format.specs.Children.{children}
use Rattle.format.specs.Chains.{chains}
use Rattle.format.specs.Matrices.{inverses, locals}
use Rattle.format.specs.Deriving.{DeriveRoom, derives, tags, parents, indices}
use Rattle.format.specs.Tables.{Room, SkeletonRow, Tables, no_rows}
use Rattle.format.specs.Read.{Step, read_skeleton}
use Rattle.format.specs.Check.{bones_read, same_chains, same_words, read_of, read_from, verdict, read, check_from, check}
use Rattle.format.specs.Rows.{bone_width, bones_of}
use Rattle.format.specs.Layout.{Bytes, layout}
use Rattle.format.specs.Write.{good_names, named, written}
use Rattle.format.proofs.Results.{needed, gone}
use Rattle.tables.specs.Front.{front_of}
use Rattle.write.specs.Outcome.{outcome, write_leaves, Writes}
use Rattle.tables.specs.Outcome.{size_of}
use Rattle.std.specs.Prelude.{Ok}

-- ---- the check

-- an acceptance is the verdict on what was read: the number of the bones read, for which the deriving's tables have room
pub record AcceptedIs (sec : Section) (droom : DeriveRoom) (s : SkeletonRow) (u : Tables) (m : ℕ) : Type 0 where
  pub count : length (bones_read s.bones u) ≡ m
  pub room : T (derives droom (length (bones_read s.bones u)))

pub accepted-is :
    (sec : Section) (room : Room) (droom : DeriveRoom) (root : ℕ) (s : SkeletonRow) (u : Tables) (m : ℕ) →
    read_skeleton sec room root no_rows ≡ done (Some s, u) → check sec room droom root ≡ done (Some m) → AcceptedIs sec droom s
    u m
unfolding check read check_from verdict
accepted-is sec room droom root s u m e a =
    let r = read_of s u in
    let a₀ : check_from droom (Some r) ≡ done (Some m) =
    sym (ap (λ (g : Step (Option SkeletonRow)). (g >>= λ x. done (read_from x.0 x.1)) >>= check_from droom) e) ∙ a in
    gone (verdict droom r) _ (Some m) a₀ λ n v a₁.
    let k₁ = needed 1 (derives droom (length r.bones)) _ n v in
    let k₂ = needed 21 (same_chains r.chains (chains (tags r.bones))) _ n k₁.1 in
    let k₃ = needed 22 (same_words r.parents (parents r.bones)) _ n k₂.1 in
    let k₄ = needed 23 (same_words r.children (children (indices r.bones) (parents r.bones))) _ n k₃.1 in
    let k₅ = needed 24 (same_words r.inverse (inverses r.bones)) _ n k₄.1 in
    let k₆ = needed 25 (same_words r.local (locals r.bones)) (done (length r.bones)) n k₅.1 in
    let p : length r.bones ≡ n = cc in
    let q : n ≡ m = cc in
    record { count = p ∙ q; room = k₁.0 }

-- ---- the writer

-- bytes that the format writes, as the code leaves them
pub record WrittenIs (lent : Section) (room : DeriveRoom) (size : ℕ) (bones : List (Bone Place)) (free : Words4) (front : Bytes) : Type 0
  where
    pub bytes : Bytes
    pub is : written lent room size bones free ≡ done bytes
    pub here : front ≡ bytes

front_of_lem : (out b : List ℕ) → length b ≤ length out → front_of (length b) (sets out 0 b) ≡ b
unfolding which_list
front_of_lem out b h =
    let l : length b ≤ length (sets out 0 b) = rw (length-sets out 0 b) h in
    rw (le-leb _ _ l, sets-eq b out 0 (omega (arith, h))) (take_at b (drop (0 + length b) out) (length b) refl)

written-fits :
    (lent : Section) (room : DeriveRoom) (size : ℕ) (bones : List (Bone Place)) (free : Words4) (b : Bytes) →
    written lent room size bones free ≡ done b → length b ≤ size
unfolding written
written-fits lent room size bones free b e =
    let kids = children (indices bones) (parents bones) in
    let l = layout (named lent bones) free in
    let k₂ = needed 2 (leb (length bones) 65535) _ b e in
    let k₄ = needed 4 (good_names lent bones) _ b k₂.1 in
    let k₁ = needed 1 (derives room (length bones)) _ b k₄.1 in
    let k₃ = needed 3 (leb (length kids) 65535) _ b k₁.1 in
    let k₅ = needed 5 (leb (length l) size) (done l) b k₃.1 in
    let q : l ≡ b = cc in
    rw (sym q) (leb→le (length l) size k₅.0)

module _ (lent : Section) (room : DeriveRoom) (n : ℕ) (t : List ℕ) (free : Words4) (out out' : List ℕ) (size : ℕ) where
  pub written_is :
      Writes (outcome lent room (length out) n t free) (Ok size) out out' →
      WrittenIs lent room (length out) (bones_of n t) free (front_of size out')
  unfolding outcome
  written_is w = go (outcome lent room (length out) n t free) refl w.answer w.buffer
    where
      go :
          (v : Res Bytes) → outcome lent room (length out) n t free ≡ v → ◌≡◌ {A = Res ℕ} (done size) (size_of v) →
          out' ≡ write_leaves v out → WrittenIs lent room (length out) (bones_of n t) free (front_of size out')
      go (refused c) e a b = let z : ◌≡◌ {A = ℕ} 0 1 = cc in absurd (omega arith)
      go (done s) e a b =
          let k₂ = needed 2 (leb n 65535) _ s e in
          let k₁ = needed 1 (leb (bone_width * n) (length t)) _ s k₂.1 in
          let q : size ≡ length s = cc in
          record {
            bytes = s;
            is = k₁.1;
            here = rw (q, b) (front_of_lem out s (written-fits lent room (length out) (bones_of n t) free s k₁.1));
          }
