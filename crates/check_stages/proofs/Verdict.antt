-- The verdict on what was read, in stages; and where the working tables have room, deriving refuses nothing. Assumes nothing.
use mathlib.Core.Path.{◌≡◌, refl, sym}
use mathlib.Core.Bool.{Bool, true, false}
use mathlib.Core.List.{List}
use Prim.Native.Nat.{ℕ, ◌*◌, ◌≤◌}
use lib.ListN.{length}
use Rattle.format.specs.Result.{done, ◌>>=◌, need}
use Rattle.format.specs.Chains.{bucket_count, chains}
use Rattle.format.specs.Children.{children}
use Rattle.format.specs.Matrices.{inverses, locals}
use Rattle.format.specs.Deriving.{tags, parents, indices, DeriveRoom, derives}
use Rattle.format.specs.Rows.{bone_width}
use Rattle.format.specs.Check.{Read, verdict, same_chains, same_words}
use Rattle.tables.proofs.Outcome.{has_room}
use Rattle.tables.specs.Working.{derive_room}
use Rattle.derive_chains.specs.Tagging.{tags_result}
use Rattle.derive_children.specs.Indexing.{indices_result, children_of}
use Rattle.tables.proofs.Rooms.{Enough, derives_enough}
use Rattle.derive_children.proofs.IndicesOutcome.{enough_indices}
use Rattle.derive_chains.proofs.TagsOutcome.{enough_tags}
use Rattle.derive_matrices.specs.Transforming.{matrices_result}
use Rattle.derive_matrices.proofs.MatrixRoom.{holds-all}
use Rattle.check_stages.specs.Agreement.{chains_agree, indices_agree, matrices_agree}

-- ---- the verdict

in_stages :
    (n : ℕ) (t₁ t₂₁ t₂₂ t₂₃ t₂₄ t₂₅ : Bool)
    → (need 1 t₁ >>= λ u. need 21 t₂₁ >>= λ u. need 22 t₂₂ >>= λ u. need 23 t₂₃ >>= λ u. need 24 t₂₄ >>= λ u. need 25 t₂₅ >>= λ u.
    done n)
    ≡ (need 1 t₁ >>= λ u. need 21 t₂₁ >>= λ u. (need 22 t₂₂ >>= λ u. need 23 t₂₃) >>= λ u. (need 24 t₂₄ >>= λ u. need 25 t₂₅) >>= λ u.
    done n)
in_stages n false t₂₁ t₂₂ t₂₃ t₂₄ t₂₅ = refl
in_stages n true false t₂₂ t₂₃ t₂₄ t₂₅ = refl
in_stages n true true false t₂₃ t₂₄ t₂₅ = refl
in_stages n true true true false t₂₄ t₂₅ = refl
in_stages n true true true true false t₂₅ = refl
in_stages n true true true true true false = refl
in_stages n true true true true true true = refl

pub verdict_stages :
    (room : DeriveRoom) (r : Read)
    → verdict room r
    ≡ (need 1 (derives room (length r.bones)) >>= λ u. chains_agree r.bones r.chains >>= λ u.
    indices_agree r.bones r.parents r.children >>= λ u. matrices_agree r.bones r.inverse r.local >>= λ u.
    done (length r.bones))
unfolding verdict chains_agree indices_agree matrices_agree
verdict_stages room r =
    let bs = r.bones in
    in_stages (length bs) (derives room (length bs)) (same_chains r.chains (chains (tags bs))) (same_words r.parents (parents bs))
    (same_words r.children (children (indices bs) (parents bs))) (same_words r.inverse (inverses bs))
    (same_words r.local (locals bs))

-- ---- room

module _ (n : ℕ) (t : List ℕ) (b e i l p c q : ℕ) (few : n ≤ 65535) (rows : bone_width * n ≤ length t)
    (d : derives (derive_room b e i l p c q) n ≡ true) where
  enough : Enough n b e i l p c q
  enough = derives_enough n b e i l p c q d

  pub room-tags : tags_result n (length t) b e ≡ done (bucket_count n)
  room-tags = sym (has_room n _ (bucket_count n) few (enough_tags n b e i l p c q (length t) rows enough))

  pub room-indices : indices_result n t p c q ≡ done (length (children_of n t))
  room-indices = sym (has_room n _ (length (children_of n t)) few (enough_indices n b e i l p c q (length t) rows enough))

  pub room_matrices : matrices_result n (length t) i l ≡ done tt
  room_matrices = sym (has_room n _ tt few (holds-all n (length t) i l rows enough.inverse enough.local))
