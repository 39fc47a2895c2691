-- Controls of deriving (see `Controls`): chains, children, inverse matrices, and the sizes of the tables. Definitions only.
use Rattle.std.specs.Prelude.{◌≡◌, ℕ, true, false, [], ◌∷◌, map, length, get_or, replicate}
use Rattle.std.specs.Prelude.{None}
use Rattle.format.specs.Bone.{Words3, Words4, words3, words4, minus_one}
use Rattle.format.specs.Chains.{chains}
use Rattle.format.specs.Children.{children}
use Rattle.format.specs.Matrices.{inverse_of, within}
use Rattle.format.specs.Deriving.{DeriveRoom, derives}
use Rattle.format.specs.Layout.{NamedBone}

-- a bone of this rotation, translation and parent
abbrev pub leaning : Words4 → Words3 → ℕ → NamedBone
leaning q v p =
    record {
      rotation = q;
      translation = v;
      scale = words3 0x3F80_0000 0x3F80_0000 0x3F80_0000;
      next_sibling = minus_one;
      parent = p;
      name = None;
      flags = 0;
      index = 0;
      tag = 0;
      kept = words4 0 0 0 0;
    }

-- a bone at (1, 0, 0), not turned
abbrev pub moved : ℕ → NamedBone
moved = leaning (words4 0 0 0 0x3F80_0000) (words3 0x3F80_0000 0 0)

-- a root, rotation (0.4, -0.3, 0.6, 0.5), at (1, -2, 0.1)
abbrev pub host : NamedBone
host = leaning (words4 0x3ECC_CCCD 0xBE99_999A 0x3F19_999A 0x3F00_0000) (words3 0x3F80_0000 0xC000_0000 0x3DCC_CCCD) minus_one

-- its child, rotation (0.2, -0.6, 0.7, 0.35), at (3, 0.5, -1.25)
abbrev pub guest : NamedBone
guest = leaning (words4 0x3E4C_CCCD 0xBF19_999A 0x3F33_3333 0x3EB3_3333) (words3 0x4040_0000 0x3F00_0000 0xBFA0_0000) 0

-- rows of the tables, in their order
abbrev pub lent_rows : (buckets entries inverse local parents children pending : ℕ) → DeriveRoom
lent_rows b e i l p c q = record { buckets = b; entries = e; inverse = i; local = l; parents = p; children = c; pending = q }

pub record DerivingControls : Type 0 where
  -- how many chains some bones have: fewer than two have none
  pub chain_counts : map (λ n. length (chains (replicate n 0))) (0 ∷ 1 ∷ 2 ∷ 10 ∷ 11 ∷ []) ≡ 0 ∷ 0 ∷ 11 ∷ 11 ∷ 29 ∷ []
  -- a root is any bone with a negative parent: -2, and -32,768
  pub root_minus_two : children (0 ∷ 1 ∷ []) (65534 ∷ 0 ∷ []) ≡ 1 ∷ 0 ∷ 1 ∷ 0 ∷ 1 ∷ 0 ∷ 1 ∷ 0 ∷ []
  pub root_least : children (0 ∷ 1 ∷ []) (32768 ∷ 0 ∷ []) ≡ 1 ∷ 0 ∷ 1 ∷ 0 ∷ 1 ∷ 0 ∷ 1 ∷ 0 ∷ []
  -- the parent 32,767 is not negative: no root, and so no children
  pub greatest_parent : children (0 ∷ 1 ∷ []) (32767 ∷ 0 ∷ []) ≡ []
  -- two roots and a child of each: the children of both
  pub two_roots : children (0 ∷ 1 ∷ 2 ∷ 3 ∷ []) (minus_one ∷ minus_one ∷ 0 ∷ 1 ∷ []) ≡ 2 ∷ 0 ∷ 3 ∷ 1 ∷ 3 ∷ 1 ∷ 3 ∷ 1 ∷ []
  -- a bone that is its own parent goes up once, since it is one bone
  pub own_parent : get_or (inverse_of (moved 0 ∷ []) (moved 0)) 12 0 ≡ 0xC000_0000
  -- three steps up
  pub three_steps : get_or (inverse_of (moved minus_one ∷ moved 0 ∷ moved 1 ∷ moved 2 ∷ []) (moved 2)) 12 0 ≡ 0xC080_0000
  -- the parent's rotation is multiplied on the left
  pub turned_otherwise : inverse_of (host ∷ guest ∷ []) guest ≡
      0xBC0D_76EF ∷ 0x3DAB_4FF7 ∷ 0x3F94_6C21 ∷ 0 ∷ 0xBF85_6DA7 ∷ 0x3EB5_BC5D ∷ 0x3DE2_D498 ∷ 0 ∷
      0xBF03_C4B1 ∷ 0xBF85_C062 ∷ 0xBCCF_F64F ∷ 0 ∷ 0x3F75_E947 ∷ 0x3FED_F771 ∷ 0xBF36_CA9E ∷ 0 ∷ []
  -- -32,768 is no position, however many bones there are
  pub climbs_to_no_negative : within 65535 32768 ≡ false
  -- two bones' tables, and each of them a row short
  pub sizes :
      map (λ r. derives r 2) (lent_rows 11 2 2 2 2 24 12 ∷ lent_rows 10 2 2 2 2 24 12 ∷
      lent_rows 11 1 2 2 2 24 12 ∷ lent_rows 11 2 1 2 2 24 12 ∷ lent_rows 11 2 2 1 2 24 12 ∷
      lent_rows 11 2 2 2 1 24 12 ∷ lent_rows 11 2 2 2 2 23 12 ∷ lent_rows 11 2 2 2 2 24 11 ∷ []) ≡
      true ∷ false ∷ false ∷ false ∷ false ∷ false ∷ false ∷ false ∷ []
  -- fewer than two bones have no chains
  pub sizes_of_none : derives (lent_rows 0 0 0 0 0 8 4) 0 ≡ true
  pub sizes_of_one : derives (lent_rows 0 0 1 1 1 16 8) 1 ≡ true
