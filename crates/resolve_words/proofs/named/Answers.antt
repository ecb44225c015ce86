-- What the search found, taken to a word.
use Rattle.std.proofs.Common.{◌∙◌, ap}
use Rattle.std.specs.Prelude.{unwrap_or}
use Rattle.check_symbols.specs.Entries.{Binding}
use Rattle.resolve_words.specs.Visible.{word_in}
use Rattle.resolve_words.proofs.Lookups.{near_word}
use Rattle.resolve_words.proofs.named.Goals as goal

pub returns : goal.returns
unfolding word_in
returns c =
    (c.unwrap_or.ensures ∙ ap (λ (b : Binding). unwrap_or b 0) c.find.ensures.0, near_word _ c.find.ensures.1 c.unwrap_or.ensures)
