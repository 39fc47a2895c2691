-- The definition of the hash at four names, as `rage_joaat` of the Rust gives it. Assumes nothing.
use Rattle.std.proofs.Common.{◌≡◌, [], ◌∷◌, refl}
use Rattle.format.specs.Hash.{mix, rage_joaat}

-- ""
hash_empty : rage_joaat [] ≡ 0
unfolding mix rage_joaat
hash_empty = refl

-- "a"
hash_a : rage_joaat (97 ∷ []) ≡ 0xCA2E_9442
unfolding mix rage_joaat
hash_a = refl

-- "head", and "Head": no letter is made small
hash_head : rage_joaat (104 ∷ 101 ∷ 97 ∷ 100 ∷ []) ≡ 0x8453_3F51
unfolding mix rage_joaat
hash_head = refl

hash_Head : rage_joaat (72 ∷ 101 ∷ 97 ∷ 100 ∷ []) ≡ 0x8A18_B7B4
unfolding mix rage_joaat
hash_Head = refl
