-- The script check accepts a text exactly when the text is the encoding of a tree that keeps the rules.
-- How to read it: `check` and `encode` are the paper's definitions, in the crate `language`. `Keeps` is in Rules.antt: the rules as properties of the
-- tree, in no order. `Bytes` says that each element of the list is a byte, which holds of every byte slice.
-- From left to right: nothing else is accepted. From right to left: no such text is refused.
use Rattle.std.specs.Prelude.{ℕ, List, ◌↔◌, ◌≡◌}
use Rattle.language.specs.Text.{Block}
use Rattle.language.specs.Encoding.{encode}
use Rattle.language.specs.Check.{accepted, check}
use Rattle.grammar.specs.Rules.{Bytes, Keeps}
use Rattle.grammar.proofs.Accepting.{accepted-keeps, keeps-accepted}

pub accepts-exactly : (bs : List ℕ) → Bytes bs → (t : Block) → (check bs ≡ accepted t) ↔ ((bs ≡ encode t) × Keeps t)
accepts-exactly bs h t = (accepted-keeps bs h t, λ k. rw k.0 (keeps-accepted t k.1))

-- a tree that keeps the rules is read back from its encoding
pub decodes : (t : Block) → Keeps t → check (encode t) ≡ accepted t
decodes t k = keeps-accepted t k

-- so no two such trees have one encoding
pub encode_injective : (t u : Block) → Keeps t → Keeps u → encode t ≡ encode u → t ≡ u
encode_injective t u k l e = let a = decodes t k in let b = decodes u l in cc
