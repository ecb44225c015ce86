-- The word of the name that the field holds.
use Rattle.std.proofs.Common.{◌∙◌, ap, ℕ, drop}
use Rattle.resolve_words.specs.Visible.{word_in, used_at}
use Rattle.resolve_words.proofs.used.Goals as goal

pub returns : goal.returns
unfolding used_at
returns c =
    let s = c.args.scope in
    (c.named.ensures.0 ∙ ap (λ (n : ℕ). word_in n (drop s.top s.entries.now)) c.word.ensures.0, c.named.ensures.1)
