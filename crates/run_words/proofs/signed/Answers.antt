use Rattle.run_words.proofs.Signs.{signed_low, signed_high}
use Rattle.run_words.proofs.signed.Goals as goal

pub returns-then-bits-lt2147483648 : goal.returns-then-bits-lt2147483648
returns-then-bits-lt2147483648 c = signed_low _ c.if-bits-lt2147483648.true

pub returns : goal.returns
returns c = signed_high _ c.if-bits-lt2147483648.false c.requires
