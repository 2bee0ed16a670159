-- The hash that a key of texts begins with.
use Rattle.std.specs.Prelude.{ℕ, List, fold}
use Rattle.std.specs.Hash as fed
use Rattle.std.specs.Hash.DefaultHasher as sip
use Rattle.std.specs.declared.hash.DefaultHasher.{DefaultHasher}

-- a digest of texts: how many they are, and each with its length
abbrev pub digest_of : List (List ℕ) → ℕ
digest_of texts = sip.finish (fold sip.write sip.initial (fed.slice (fed.slice fed.u8) texts))

-- the state of a hash that has taken the digest alone
abbrev pub hasher_of : List (List ℕ) → DefaultHasher
hasher_of texts = fold sip.write sip.initial (fed.u64 (digest_of texts))
