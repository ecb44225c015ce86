-- AD, RM and QY as the code answers: what the definitions of the table come to, in the code's enums and words.
use Rattle.std.specs.Prelude.{ℕ, List, ℤ, Result, Ok, Err}
use Rattle.language.specs.Table.{Table, Effect, leaves, halts, Asked, gives, refuses}
use Rattle.language.specs.declared.Stop.{Stop}

-- AD or RM: the count of pairs after it, or the cause to stop
abbrev pub Change : Type 0
Change = Result ℕ Stop

-- QY: the value that it stores, or the cause to stop
abbrev pub Query : Type 0
Query = Result ℤ Stop

abbrev pub table_of : List ℤ → ℕ → Table
table_of ws k = record { words = ws; used = k }

unfoldable pub change_of : Effect → Change
change_of (leaves t) = Ok t.used
change_of (halts c) = Err c

-- the count of pairs after it
unfoldable pub count_after : ℕ → Change → ℕ
count_after k (Ok n) = n
count_after k (Err c) = k

-- a cause leaves the words as they were
unfoldable pub words_after : List ℤ → Effect → List ℤ
words_after ws (leaves t) = t.words
words_after ws (halts c) = ws

unfoldable pub value_of : Asked → Query
value_of (gives z) = Ok z
value_of (refuses c) = Err c
