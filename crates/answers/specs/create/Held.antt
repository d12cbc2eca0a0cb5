-- How the code goes, not what a call does: the rights word that an end holds in 16 bits.
use Rattle.std.specs.Prelude.{ℕ, ltb}
use Rattle.definition.specs.Status.{pick}

-- the word itself where create is done, by the law `held-made` of proofs/create/Held; 0 for a word above 7, which create refuses
unfoldable pub held_rights : ℕ → ℕ
held_rights rights = pick (ltb 7 rights) 0 rights
