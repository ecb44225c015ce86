-- Sample scripts: those that document 01 marks *, with the sheet of request 2 and the list of request 3, and rows for readings that nothing else
-- rules out, in one table.
-- docs/READINGS.md has the wrong readings that the rows rule out.
-- A row compares whole replies: end with cause, steps, offset, pairs in use, count of sheet words, tally, designator and links of the answer,
-- and every word of sheet, table and list. The claim about all rows is `samples-hold` in proofs/Samples.antt.
use Rattle.std.specs.Prelude.{ℕ, zero, suc, ◌+◌, ◌-◌, ◌*◌, ◌/◌, ℤ, pos, negsuc, length, get_or, replicate}
use mathlib.Core.List.{List, [], ◌∷◌, ◌++◌, map}
use Rattle.language.specs.Basics.{up_from}
use Rattle.language.specs.Encoding.{bytes_of, BK-mark, VR-mark, LB-mark, PR-mark, FM-mark, CL-mark, GO-mark, IF-mark, KN-mark, AR-mark, AD-mark, RM-mark, QY-mark}
use Rattle.language.specs.Table.{Table}
use Rattle.language.specs.Call.{Fed, Reply, Engine, copying, chain, display, search, reply}
use Rattle.language.specs.declared.Stop.TheVariants.{ResultTooLarge, NoActivationLeft, GroupFull, TableFull, ArgumentsDiffer}
use Rattle.language.specs.declared.Refusal.{Refusal}
use Rattle.language.specs.declared.Refusal.TheVariants.{ScriptLength, FieldRange, BytesAfter, NestingDepth, TooManyNames, NameTwice, NotVisible, WrongKind, LimitRange, AreaTooShort, TableNotRight}
use Rattle.language.specs.declared.End.{End}
use Rattle.language.specs.declared.End.TheVariants.{Finished, Spent, Stopped, Refused}

-- Which engines a row is about: all, each lent what it is due of its own, or one with so much of its own.
pub data About : Type 0 where
  all : About
  only : Engine → About

-- A row: what is fed (`short`: how many words of sheet are lent too few), and from `end` on what must come back. `links` are those of the
-- engine that reports them, `sheet` has the words written, `words` and `listed` are the table's and the list's, all of them. The rest of a reply follows: the count of these words, the tally handed in and
-- the steps together, and past the words written what was there.
pub record Sample : Type 0 where
  pub script : List ℕ
  pub activations : ℕ
  pub allowance : ℕ
  pub limit : ℕ
  pub about : About
  pub short : ℕ
  pub table : Table
  pub groups : List ℤ
  pub name : ℕ
  pub end : End
  pub steps : ℕ
  pub offset : ℕ
  pub pairs : ℕ
  pub designator : ℕ
  pub links : ℕ
  pub sheet : List ℤ
  pub words : List ℤ
  pub listed : List ℤ

-- the tally handed in, and what k words of the lent sheet hold before, from word i on: no two are alike
unfoldable pub lent_tally : ℕ
lent_tally = 100

unfoldable pub lent_words : ℕ → ℕ → List ℤ
lent_words i k = map pos (up_from (i + 7) k)

-- 35 is written out here, so that the rows judge `sheet_share`
unfoldable pub lent_sheet : Sample → ℕ
lent_sheet r = r.activations * 35 - r.short

unfoldable pub fed : Sample → Fed
fed r =
    record { script = r.script; activations = r.activations; allowance = r.allowance; limit = r.limit; tally = lent_tally; name = r.name; lent = record { sheet = lent_words 0 (lent_sheet r); table = r.table; groups = r.groups } }

-- An engine of a row, with the links that it must give.
pub record Party : Type 0 where
  pub engine : Engine
  pub links : ℕ

unfoldable pub parties : Sample → List Party
parties r =
    elim r.about [
      | all ↦
          record { engine = copying (r.activations * (length r.script / 2)); links = 0 } ∷
          record { engine = chain r.activations; links = r.links } ∷
          record { engine = display; links = 0 } ∷
          record { engine = search; links = 0 } ∷ []
      | only e ↦ record { engine = e; links = r.links } ∷ []
    ]

unfoldable pub got : Sample → Party → Reply
got r p = reply p.engine (fed r)

unfoldable pub wanted : Sample → Party → Reply
wanted r p =
    record { answer = record { end = r.end; steps = r.steps; offset = r.offset; pairs = r.pairs; sheet = length r.sheet; tally = lent_tally + r.steps; designator = r.designator; links = p.links }; lent = record { sheet = r.sheet ++ lent_words (length r.sheet) (lent_sheet r - length r.sheet); table = record { words = r.words; used = r.pairs }; groups = r.listed } }

unfoldable pub no_pairs : ℕ → List ℤ
no_pairs n = replicate (n * 2) (pos 0)

unfoldable pub script-empty : List ℕ
script-empty = []

unfoldable pub script-null : List ℕ
script-null = bytes_of (BK-mark ∷ 0 ∷ 0 ∷ [])

unfoldable pub script-A : List ℕ
script-A =
    bytes_of (BK-mark ∷ 2 ∷ 3 ∷ VR-mark ∷ 1 ∷ VR-mark ∷ 2 ∷ KN-mark ∷ 1 ∷ 5 ∷ 0 ∷ KN-mark ∷ 2 ∷ 7 ∷ 0 ∷ AD-mark ∷ 1 ∷ 2 ∷ [])

unfoldable pub script-B : List ℕ
script-B =
    bytes_of
    (BK-mark ∷ 3 ∷ 1 ∷ VR-mark ∷ 1 ∷ PR-mark ∷ 2 ∷ 0 ∷ BK-mark ∷ 0 ∷ 0 ∷ PR-mark ∷ 3 ∷ 1 ∷ FM-mark ∷ 4 ∷ 2 ∷ BK-mark ∷ 3 ∷ 6 ∷ VR-mark ∷ 5 ∷ PR-mark ∷ 6 ∷ 0 ∷ BK-mark ∷ 0 ∷ 1 ∷ KN-mark ∷ 5 ∷ 9 ∷ 0 ∷ LB-mark ∷ 7 ∷ 5 ∷ IF-mark ∷ 1 ∷ 7 ∷ KN-mark ∷ 1 ∷ 1 ∷ 0 ∷ KN-mark ∷ 5 ∷ 1 ∷ 0 ∷ CL-mark ∷ 3 ∷ 1 ∷ 6 ∷ KN-mark ∷ 5 ∷ 2 ∷ 0 ∷ CL-mark ∷ 4 ∷ 0 ∷ CL-mark ∷ 3 ∷ 1 ∷ 2 ∷ [])

-- variable 1 := a, variable 2 := b, variable 1 := 1 o 2; a and b are KN's values, two fields each, low first
unfoldable pub script-arithmetic : ℕ → ℕ → ℕ → ℕ → ℕ → List ℕ
script-arithmetic a a' b b' o =
    bytes_of
    (BK-mark ∷ 2 ∷ 3 ∷ VR-mark ∷ 1 ∷ VR-mark ∷ 2 ∷ KN-mark ∷ 1 ∷ a ∷ a' ∷ KN-mark ∷ 2 ∷ b ∷ b' ∷ AR-mark ∷ 1 ∷ o ∷ 1 ∷ 2 ∷ [])

-- a program whose one statement is a block
unfoldable pub script-nested : List ℕ
script-nested = bytes_of (BK-mark ∷ 0 ∷ 1 ∷ BK-mark ∷ 0 ∷ 0 ∷ [])

-- a label beyond the statements that is also declared twice: 4 goes before 8
unfoldable pub script-order : List ℕ
script-order = bytes_of (BK-mark ∷ 2 ∷ 1 ∷ VR-mark ∷ 1 ∷ LB-mark ∷ 1 ∷ 2 ∷ GO-mark ∷ 1 ∷ [])

-- a goto out of two blocks, to the statement after the outer one
unfoldable pub script-goto : List ℕ
script-goto =
    bytes_of (BK-mark ∷ 2 ∷ 2 ∷ LB-mark ∷ 1 ∷ 2 ∷ VR-mark ∷ 2 ∷ BK-mark ∷ 0 ∷ 1 ∷ BK-mark ∷ 0 ∷ 1 ∷ GO-mark ∷ 1 ∷ KN-mark ∷ 2 ∷ 5 ∷ 0 ∷ [])

-- a procedure with two formals of the same names as two variables, called with them crossed: each formal reads as its argument
unfoldable pub script-crossed : List ℕ
script-crossed =
    bytes_of (BK-mark ∷ 3 ∷ 1 ∷ VR-mark ∷ 1 ∷ VR-mark ∷ 2 ∷ PR-mark ∷ 3 ∷ 2 ∷ FM-mark ∷ 1 ∷ 0 ∷ FM-mark ∷ 2 ∷ 0 ∷ BK-mark ∷ 0 ∷ 1 ∷ KN-mark ∷ 1 ∷ 6 ∷ 0 ∷ CL-mark ∷ 3 ∷ 2 ∷ 2 ∷ 1 ∷ [])

-- a procedure of name n and p formals after variable 1; the second formal stands twice and has no kind
unfoldable pub script-procedure : ℕ → ℕ → List ℕ
script-procedure n p =
    bytes_of
    (BK-mark ∷ 2 ∷ 0 ∷ VR-mark ∷ 1 ∷ PR-mark ∷ n ∷ p ∷ FM-mark ∷ 2 ∷ 0 ∷ FM-mark ∷ 2 ∷ 3 ∷ BK-mark ∷ 0 ∷ 0 ∷ [])

-- a block of too many names inside k blocks
unfoldable pub inside-blocks : ℕ → List ℕ
inside-blocks zero = BK-mark ∷ 33 ∷ 0 ∷ []
inside-blocks (suc k) = BK-mark ∷ 0 ∷ 1 ∷ inside-blocks k

-- label 2 and one statement, at offset 12
unfoldable pub script-use : List ℕ → List ℕ
script-use statement = bytes_of (BK-mark ∷ 1 ∷ 1 ∷ LB-mark ∷ 2 ∷ 1 ∷ statement)

-- variables 1 and 2 are 5 and 7; 3 := whether the pair is present; the pair taken out
unfoldable pub script-pair : List ℕ
script-pair =
    bytes_of
    (BK-mark ∷ 3 ∷ 4 ∷ VR-mark ∷ 1 ∷ VR-mark ∷ 2 ∷ VR-mark ∷ 3 ∷ KN-mark ∷ 1 ∷ 5 ∷ 0 ∷ KN-mark ∷ 2 ∷ 7 ∷ 0 ∷ QY-mark ∷ 3 ∷ 1 ∷ 2 ∷ RM-mark ∷ 1 ∷ 2 ∷ [])

-- procedure 1 calls its formal with one argument, procedure 3 has no formals and is handed to 1
unfoldable pub script-formal : List ℕ
script-formal =
    bytes_of
    (BK-mark ∷ 2 ∷ 1 ∷ PR-mark ∷ 1 ∷ 1 ∷ FM-mark ∷ 2 ∷ 2 ∷ BK-mark ∷ 0 ∷ 1 ∷ CL-mark ∷ 2 ∷ 1 ∷ 2 ∷ PR-mark ∷ 3 ∷ 0 ∷ BK-mark ∷ 0 ∷ 0 ∷ CL-mark ∷ 1 ∷ 1 ∷ 3 ∷ [])

-- in a block that declares the highest name: outer variable 1 := −1, then 1 := 1 < 65535
unfoldable pub script-highest : List ℕ
script-highest =
    bytes_of
    (BK-mark ∷ 1 ∷ 1 ∷ VR-mark ∷ 1 ∷ BK-mark ∷ 1 ∷ 2 ∷ VR-mark ∷ 65535 ∷ KN-mark ∷ 1 ∷ 65535 ∷ 65535 ∷ AR-mark ∷ 1 ∷ 2 ∷ 1 ∷ 65535 ∷ [])

-- variable 1 of a block in the program, whose own variable 1 it hides, := 5
unfoldable pub script-hidden : List ℕ
script-hidden =
    bytes_of (BK-mark ∷ 1 ∷ 1 ∷ VR-mark ∷ 1 ∷ BK-mark ∷ 1 ∷ 1 ∷ VR-mark ∷ 1 ∷ KN-mark ∷ 1 ∷ 5 ∷ 0 ∷ [])

-- variable 1 := −1; IF 1 goes back to the first statement
unfoldable pub script-negative : List ℕ
script-negative =
    bytes_of (BK-mark ∷ 2 ∷ 2 ∷ VR-mark ∷ 1 ∷ LB-mark ∷ 2 ∷ 1 ∷ KN-mark ∷ 1 ∷ 65535 ∷ 65535 ∷ IF-mark ∷ 1 ∷ 2 ∷ [])

-- the empty program and so many fields after it
unfoldable pub script-padded : ℕ → List ℕ
script-padded k = bytes_of (BK-mark ∷ 0 ∷ 0 ∷ replicate k 0)

-- procedure 2 declares procedure 4 and calls itself once; the second time it calls its own 4
unfoldable pub script-own : List ℕ
script-own =
    bytes_of
    (BK-mark ∷ 2 ∷ 1 ∷ VR-mark ∷ 1 ∷ PR-mark ∷ 2 ∷ 0 ∷ BK-mark ∷ 2 ∷ 4 ∷ LB-mark ∷ 3 ∷ 4 ∷ PR-mark ∷ 4 ∷ 0 ∷ BK-mark ∷ 0 ∷ 0 ∷ IF-mark ∷ 1 ∷ 3 ∷ KN-mark ∷ 1 ∷ 1 ∷ 0 ∷ CL-mark ∷ 2 ∷ 0 ∷ CL-mark ∷ 4 ∷ 0 ∷ CL-mark ∷ 2 ∷ 0 ∷ [])

-- procedure 4 hands the program's procedure 1 to procedure 2, which calls it
unfoldable pub script-handed : List ℕ
script-handed =
    bytes_of
    (BK-mark ∷ 3 ∷ 1 ∷ PR-mark ∷ 1 ∷ 0 ∷ BK-mark ∷ 0 ∷ 0 ∷ PR-mark ∷ 2 ∷ 1 ∷ FM-mark ∷ 3 ∷ 2 ∷ BK-mark ∷ 0 ∷ 1 ∷ CL-mark ∷ 3 ∷ 0 ∷ PR-mark ∷ 4 ∷ 0 ∷ BK-mark ∷ 0 ∷ 1 ∷ CL-mark ∷ 2 ∷ 1 ∷ 1 ∷ CL-mark ∷ 4 ∷ 0 ∷ [])

-- a call that runs to its end, stops or is refused, with N, from an empty table of eight pairs
unfoldable pub ends-within : ℕ → List ℕ → ℕ → End → ℕ → ℕ → List ℤ → Sample
ends-within allowance script d e n o ws =
    record { script = script; activations = d; allowance = allowance; limit = 3; about = all; short = 0; table = record { words = no_pairs 8; used = 0 }; groups = no_pairs 8; name = 9; end = e; steps = n; offset = o; pairs = 0; designator = 0; links = 0; sheet = ws; words = no_pairs 8; listed = no_pairs 8 }

unfoldable pub ends_with : List ℕ → ℕ → End → ℕ → ℕ → List ℤ → Sample
ends_with script d e n o ws = ends-within 1000 script d e n o ws

-- script A with group limit, table, its count and list; what comes of it
unfoldable pub of-A : ℕ → List ℤ → ℕ → List ℤ → End → ℕ → ℕ → ℕ → List ℤ → List ℤ → List ℤ → Sample
of-A g table used groups e n o pairs ws table' groups' =
    record { script = script-A; activations = 16; allowance = 1000; limit = g; about = all; short = 0; table = record { words = table; used = used }; groups = groups; name = 9; end = e; steps = n; offset = o; pairs = pairs; designator = 0; links = 0; sheet = ws; words = table'; listed = groups' }

-- script A stopped at its AD, which stands at offset 30
unfoldable pub A-stopped : List ℤ
A-stopped = pos 0 ∷ pos 3 ∷ pos 0 ∷ pos 5 ∷ pos 7 ∷ []

-- script B after nine steps
unfoldable pub B-spent : List ℤ
B-spent =
    pos 0 ∷ pos 2 ∷ pos 0 ∷ pos 1 ∷ pos 0 ∷ pos 0 ∷ pos 34 ∷ pos 5 ∷ pos 1 ∷ pos 66 ∷ pos 9 ∷ pos 0 ∷ pos 0 ∷ pos 34 ∷ pos 7 ∷ pos 1 ∷ pos 131 ∷ pos 2 ∷ pos 0 ∷ pos 0 ∷ pos 50 ∷ pos 2 ∷ pos 2 ∷ []

-- a spent run, with the looked-up name
unfoldable pub spent-at : List ℕ → ℕ → ℕ → ℕ → ℕ → List ℤ → Sample
spent-at script n name designator links ws =
    record { script = script; activations = 16; allowance = n; limit = 3; about = all; short = 0; table = record { words = no_pairs 8; used = 0 }; groups = no_pairs 8; name = name; end = Spent; steps = n; offset = 0; pairs = 0; designator = designator; links = links; sheet = ws; words = no_pairs 8; listed = no_pairs 8 }

-- a refused call with N at its highest: script, G, engines, words short, table and list; cause and offset
unfoldable pub refused-with : List ℕ → ℕ → About → ℕ → Table → List ℤ → Refusal → ℕ → Sample
refused-with script g about short t groups c o =
    record { script = script; activations = 16; allowance = 1000000; limit = g; about = about; short = short; table = t; groups = groups; name = 9; end = Refused c; steps = 0; offset = o; pairs = t.used; designator = 0; links = 0; sheet = []; words = t.words; listed = groups }

-- the script is empty and a number of the table is 0; G, engines, words short and list vary
unfoldable pub all-wrong : ℕ → About → ℕ → List ℤ → Refusal → Sample
all-wrong g about short groups c = refused-with script-empty g about short (record { words = pos 6 ∷ pos 0 ∷ []; used = 1 }) groups c 0

unfoldable pub wrong-list : List ℤ
wrong-list = pos 7 ∷ pos 1 ∷ []

-- table or list is not right; script A would run with right ones
unfoldable pub not_listed : List ℤ → ℕ → List ℤ → Sample
not_listed table used groups =
    refused-with script-A 3 all 0 (record { words = table; used = used }) groups TableNotRight 0

-- the first of three pairs in use taken out of four places
unfoldable pub pair-taken-out : Sample
pair-taken-out =
    record { script = script-pair; activations = 16; allowance = 4; limit = 3; about = all; short = 0; table = record { words = pos 5 ∷ pos 7 ∷ pos 6 ∷ pos 1 ∷ pos 6 ∷ pos 2 ∷ pos 8 ∷ pos 9 ∷ []; used = 3 }; groups = pos 5 ∷ pos 1 ∷ pos 6 ∷ pos 2 ∷ no_pairs 2; name = 3; end = Spent; steps = 4; offset = 0; pairs = 2; designator = 67; links = 0; sheet = pos 0 ∷ pos 5 ∷ pos 0 ∷ pos 5 ∷ pos 7 ∷ pos 1 ∷ []; words = pos 6 ∷ pos 1 ∷ pos 6 ∷ pos 2 ∷ pos 0 ∷ pos 0 ∷ pos 8 ∷ pos 9 ∷ []; listed = pos 6 ∷ pos 2 ∷ no_pairs 3 }

unfoldable pub samples : List Sample
samples =
    ends_with script-empty 16 (Refused ScriptLength) 0 0 [] ∷
    ends_with script-null 16 Finished 1 0 [] ∷
    -- finished goes before spent
    ends-within 1 script-null 16 Finished 1 0 [] ∷
    spent-at script-null 0 9 0 0 (pos 0 ∷ pos 1 ∷ pos 0 ∷ []) ∷
    of-A 3 (no_pairs 8) 0 (no_pairs 8) Finished 4 0 1 [] (pos 5 ∷ pos 7 ∷ no_pairs 7) (pos 5 ∷ pos 1 ∷ no_pairs 7) ∷
    of-A 1 (pos 5 ∷ pos 8 ∷ no_pairs 7) 1 (pos 5 ∷ pos 1 ∷ no_pairs 7) (Stopped GroupFull) 2 30 1 A-stopped (pos 5 ∷ pos 8 ∷ no_pairs 7) (pos 5 ∷ pos 1 ∷ no_pairs 7) ∷
    of-A 2 (pos 5 ∷ pos 8 ∷ no_pairs 7) 1 (pos 5 ∷ pos 1 ∷ no_pairs 7) Finished 4 0 2 [] (pos 5 ∷ pos 8 ∷ pos 5 ∷ pos 7 ∷ no_pairs 6) (pos 5 ∷ pos 2 ∷ no_pairs 7) ∷
    of-A 1 (pos 5 ∷ pos 7 ∷ no_pairs 7) 1 (pos 5 ∷ pos 1 ∷ no_pairs 7) Finished 4 0 1 [] (pos 5 ∷ pos 7 ∷ no_pairs 7) (pos 5 ∷ pos 1 ∷ no_pairs 7) ∷
    of-A 1 (no_pairs 8) 0 (no_pairs 8) Finished 4 0 1 [] (pos 5 ∷ pos 7 ∷ no_pairs 7) (pos 5 ∷ pos 1 ∷ no_pairs 7) ∷
    of-A 3 (pos 6 ∷ pos 1 ∷ []) 1 (pos 6 ∷ pos 1 ∷ []) (Stopped TableFull) 2 30 1 A-stopped (pos 6 ∷ pos 1 ∷ []) (pos 6 ∷ pos 1 ∷ []) ∷
    of-A 3 (pos 6 ∷ pos 1 ∷ no_pairs 1) 1 (pos 6 ∷ pos 1 ∷ no_pairs 1) Finished 4 0 2 [] (pos 6 ∷ pos 1 ∷ pos 5 ∷ pos 7 ∷ []) (pos 5 ∷ pos 1 ∷ pos 6 ∷ pos 1 ∷ []) ∷
    of-A 3 (pos 6 ∷ pos 0 ∷ []) 1 (pos 6 ∷ pos 1 ∷ []) (Refused TableNotRight) 0 0 1 [] (pos 6 ∷ pos 0 ∷ []) (pos 6 ∷ pos 1 ∷ []) ∷
    -- 14 for a pair that stands twice, and for a group above G
    of-A 3 (pos 5 ∷ pos 7 ∷ pos 5 ∷ pos 7 ∷ []) 2 (pos 5 ∷ pos 2 ∷ no_pairs 1) (Refused TableNotRight) 0 0 2 [] (pos 5 ∷ pos 7 ∷ pos 5 ∷ pos 7 ∷ []) (pos 5 ∷ pos 2 ∷ no_pairs 1) ∷
    of-A 1 (pos 6 ∷ pos 1 ∷ pos 6 ∷ pos 2 ∷ []) 2 (pos 6 ∷ pos 2 ∷ no_pairs 1) (Refused TableNotRight) 0 0 2 [] (pos 6 ∷ pos 1 ∷ pos 6 ∷ pos 2 ∷ []) (pos 6 ∷ pos 2 ∷ no_pairs 1) ∷
    -- 24 before 25
    of-A 1 (pos 5 ∷ pos 8 ∷ []) 1 (pos 5 ∷ pos 1 ∷ []) (Stopped GroupFull) 2 30 1 A-stopped (pos 5 ∷ pos 8 ∷ []) (pos 5 ∷ pos 1 ∷ []) ∷
    -- group before member; later pairs keep their order, words past the count their places
    pair-taken-out ∷
    -- 12 before 13; 13 for one word of sheet or one record too few, before 14 and 1
    all-wrong 0 (only (chain 15)) 1 [] LimitRange ∷
    all-wrong 65535 all 1 wrong-list AreaTooShort ∷
    all-wrong 65535 (only (chain 15)) 0 wrong-list AreaTooShort ∷
    -- 13 for a copying area one word too short; 9 before it
    refused-with script-A 65535 (only (copying 287)) 0 (record { words = []; used = 0 }) [] AreaTooShort 0 ∷
    refused-with (script-use (GO-mark ∷ 9 ∷ [])) 65535 (only (copying 0)) 0 (record { words = []; used = 0 }) [] NotVisible 12 ∷
    spent-at script-B 9 5 130 1 B-spent ∷
    ends_with (script-arithmetic 65535 32767 1 0 0) 16 (Stopped ResultTooLarge) 2 30 (pos 0 ∷ pos 3 ∷ pos 0 ∷ pos 2147483647 ∷ pos 1 ∷ []) ∷
    ends_with (script-arithmetic 0 32768 1 0 1) 16 (Stopped ResultTooLarge) 2 30 (pos 0 ∷ pos 3 ∷ pos 0 ∷ negsuc 2147483647 ∷ pos 1 ∷ []) ∷
    ends_with (script-arithmetic 65535 32767 0 0 0) 16 Finished 4 0 [] ∷
    ends_with (script-arithmetic 0 32768 0 0 1) 16 Finished 4 0 [] ∷
    ends_with script-nested 1 (Stopped NoActivationLeft) 0 6 (pos 0 ∷ pos 1 ∷ pos 0 ∷ []) ∷
    ends_with script-nested 2 Finished 3 0 [] ∷
    ends_with script-order 16 (Refused FieldRange) 0 10 [] ∷
    -- PR: 7 before 8, and both before its formals; FM: 4 before 8; 6 before 7
    ends_with (script-procedure 1 33) 16 (Refused TooManyNames) 0 10 [] ∷
    ends_with (script-procedure 1 2) 16 (Refused NameTwice) 0 10 [] ∷
    ends_with (script-procedure 3 2) 16 (Refused FieldRange) 0 22 [] ∷
    ends_with (bytes_of (inside-blocks 16)) 16 (Refused NestingDepth) 0 96 [] ∷
    -- one name after another: the first is no variable, or no procedure (10), the second not visible (9)
    ends_with (script-use (IF-mark ∷ 2 ∷ 9 ∷ [])) 16 (Refused WrongKind) 0 12 [] ∷
    ends_with (script-use (CL-mark ∷ 2 ∷ 1 ∷ 9 ∷ [])) 16 (Refused WrongKind) 0 12 [] ∷
    -- 26 before 22
    ends_with script-formal 2 (Stopped ArgumentsDiffer) 1 24 (pos 0 ∷ pos 2 ∷ pos 0 ∷ pos 0 ∷ pos 0 ∷ pos 18 ∷ pos 1 ∷ pos 1 ∷ pos 66 ∷ []) ∷
    spent-at script-goto 3 2 66 0 (pos 0 ∷ pos 2 ∷ pos 0 ∷ pos 0 ∷ pos 0 ∷ []) ∷
    spent-at script-crossed 2 1 66 0 (pos 0 ∷ pos 2 ∷ pos 0 ∷ pos 0 ∷ pos 6 ∷ pos 0 ∷ pos 32 ∷ pos 2 ∷ pos 1 ∷ pos 66 ∷ pos 65 ∷ []) ∷
    -- new names lie above 65,535; less goes by sign
    spent-at script-highest 3 65535 129 0 (pos 0 ∷ pos 2 ∷ pos 0 ∷ pos 1 ∷ pos 10 ∷ pos 3 ∷ pos 1 ∷ pos 0 ∷ []) ∷
    -- a name is looked up as written: 65,536 is the new name of the program's variable, and none of the script's
    spent-at script-B 9 65536 0 0 B-spent ∷
    -- what encloses what: block in block; a procedure of the newer of two activations; one handed over by another activation than the declaring one
    spent-at script-goto 2 2 66 2 (pos 0 ∷ pos 2 ∷ pos 0 ∷ pos 0 ∷ pos 0 ∷ pos 16 ∷ pos 2 ∷ pos 1 ∷ pos 22 ∷ pos 1 ∷ pos 2 ∷ []) ∷
    spent-at script-own 6 3 193 1 (pos 0 ∷ pos 2 ∷ pos 0 ∷ pos 1 ∷ pos 0 ∷ pos 16 ∷ pos 4 ∷ pos 1 ∷ pos 0 ∷ pos 0 ∷ pos 16 ∷ pos 5 ∷ pos 1 ∷ pos 0 ∷ pos 0 ∷ pos 34 ∷ pos 1 ∷ pos 3 ∷ []) ∷
    spent-at script-handed 3 1 65 1 (pos 0 ∷ pos 2 ∷ pos 0 ∷ pos 0 ∷ pos 0 ∷ pos 0 ∷ pos 48 ∷ pos 2 ∷ pos 1 ∷ pos 30 ∷ pos 2 ∷ pos 1 ∷ pos 65 ∷ pos 12 ∷ pos 1 ∷ pos 1 ∷ []) ∷
    -- IF goes where the variable is below 0
    spent-at script-negative 2 1 65 0 (pos 0 ∷ pos 1 ∷ pos 0 ∷ negsuc 0 ∷ pos 0 ∷ []) ∷
    -- a pair past the count is neither found nor of its group
    of-A 2 (pos 5 ∷ pos 8 ∷ pos 5 ∷ pos 7 ∷ []) 1 (pos 5 ∷ pos 1 ∷ no_pairs 1) Finished 4 0 2 [] (pos 5 ∷ pos 8 ∷ pos 5 ∷ pos 7 ∷ []) (pos 5 ∷ pos 2 ∷ no_pairs 1) ∷
    -- 8,192 bytes are read, 8,194 are not
    refused-with (script-padded 4093) 65535 all 0 (record { words = []; used = 0 }) [] BytesAfter 6 ∷
    refused-with (script-padded 4094) 65535 all 0 (record { words = []; used = 0 }) [] ScriptLength 0 ∷
    -- 13 for a list one word too short, before 14 and 1; of a table of three words two are needed, and the table itself gets 14
    all-wrong 65535 all 0 (pos 6 ∷ []) AreaTooShort ∷
    refused-with script-A 3 all 0 (record { words = pos 6 ∷ pos 1 ∷ pos 6 ∷ []; used = 1 }) (pos 6 ∷ []) AreaTooShort 0 ∷
    refused-with script-A 3 all 0 (record { words = pos 6 ∷ pos 1 ∷ pos 6 ∷ []; used = 1 }) (pos 6 ∷ pos 1 ∷ []) TableNotRight 0 ∷
    -- 14 for a list that is not right, before 1: another group; groups that do not rise, or stand twice
    refused-with script-empty 3 all 0 (record { words = pos 6 ∷ pos 1 ∷ []; used = 1 }) wrong-list TableNotRight 0 ∷
    not_listed (pos 6 ∷ pos 1 ∷ pos 5 ∷ pos 1 ∷ no_pairs 1) 2 (pos 6 ∷ pos 1 ∷ pos 5 ∷ pos 1 ∷ no_pairs 1) ∷
    not_listed (pos 6 ∷ pos 1 ∷ no_pairs 2) 1 (pos 6 ∷ pos 1 ∷ pos 6 ∷ pos 1 ∷ no_pairs 1) ∷
    -- a group of no members, a place that is not in use before one that is, a number in a place with no group
    not_listed (pos 6 ∷ pos 1 ∷ no_pairs 2) 1 (pos 6 ∷ pos 1 ∷ pos 7 ∷ pos 0 ∷ no_pairs 1) ∷
    not_listed (pos 6 ∷ pos 1 ∷ no_pairs 2) 1 (pos 0 ∷ pos 0 ∷ pos 6 ∷ pos 1 ∷ no_pairs 1) ∷
    not_listed (pos 6 ∷ pos 1 ∷ no_pairs 2) 1 (pos 6 ∷ pos 1 ∷ pos 0 ∷ pos 1 ∷ no_pairs 1) ∷
    -- a number that is no full count, a group of the table that is not there; a pair past the count is not counted
    not_listed (pos 6 ∷ pos 1 ∷ pos 6 ∷ pos 2 ∷ no_pairs 1) 2 (pos 6 ∷ pos 1 ∷ no_pairs 2) ∷
    not_listed (pos 6 ∷ pos 1 ∷ pos 7 ∷ pos 1 ∷ no_pairs 1) 2 (pos 6 ∷ pos 1 ∷ no_pairs 2) ∷
    not_listed (pos 6 ∷ pos 1 ∷ pos 6 ∷ pos 2 ∷ no_pairs 1) 1 (pos 6 ∷ pos 2 ∷ no_pairs 2) ∷
    -- a new group between two others; whatever stands after the words needed
    of-A 3 (pos 6 ∷ pos 1 ∷ pos 4 ∷ pos 7 ∷ pos 6 ∷ pos 2 ∷ no_pairs 1) 3 (pos 4 ∷ pos 1 ∷ pos 6 ∷ pos 2 ∷ no_pairs 2 ++ (pos 3 ∷ pos 8 ∷ pos 1 ∷ [])) Finished 4 0 4 [] (pos 6 ∷ pos 1 ∷ pos 4 ∷ pos 7 ∷ pos 6 ∷ pos 2 ∷ pos 5 ∷ pos 7 ∷ []) (pos 4 ∷ pos 1 ∷ pos 5 ∷ pos 1 ∷ pos 6 ∷ pos 2 ∷ no_pairs 1 ++ (pos 3 ∷ pos 8 ∷ pos 1 ∷ [])) ∷
    -- numbers that are no full counts though their sum is right, a group that has no pair, a number with no group in front
    not_listed (pos 6 ∷ pos 1 ∷ pos 6 ∷ pos 2 ∷ pos 7 ∷ pos 1 ∷ []) 3 (pos 6 ∷ pos 1 ∷ pos 7 ∷ pos 2 ∷ no_pairs 1) ∷
    not_listed (pos 6 ∷ pos 1 ∷ no_pairs 2) 1 (pos 6 ∷ pos 1 ∷ pos 7 ∷ pos 1 ∷ no_pairs 1) ∷
    not_listed (pos 6 ∷ pos 1 ∷ no_pairs 2) 1 (pos 0 ∷ pos 1 ∷ pos 6 ∷ pos 1 ∷ no_pairs 1) ∷
    -- a third group above the first and below the second; 14 for a count past the table's end, and for the table alone before 1
    not_listed (pos 4 ∷ pos 1 ∷ pos 6 ∷ pos 1 ∷ pos 5 ∷ pos 1 ∷ []) 3 (pos 4 ∷ pos 1 ∷ pos 6 ∷ pos 1 ∷ pos 5 ∷ pos 1 ∷ []) ∷
    not_listed (pos 6 ∷ pos 1 ∷ []) 2 (pos 6 ∷ pos 1 ∷ []) ∷
    all-wrong 65535 all 0 (pos 6 ∷ pos 1 ∷ []) TableNotRight ∷
    -- G = 65,536; a block that declares a name of the block around it
    refused-with script-A 65536 all 0 (record { words = []; used = 0 }) [] LimitRange 0 ∷
    spent-at script-hidden 2 1 129 0 (pos 0 ∷ pos 2 ∷ pos 0 ∷ pos 0 ∷ pos 10 ∷ pos 2 ∷ pos 1 ∷ pos 5 ∷ []) ∷ []

-- the first row stands for what lies past the end
unfoldable pub row : ℕ → Sample
row k = get_or samples k (ends_with script-empty 16 (Refused ScriptLength) 0 0 [])

-- the replies to a row, those got and those wanted
unfoldable pub replies : (Sample → Party → Reply) → Sample → List Reply
replies f r = map (f r) (parties r)

-- The definitions of this table, to be computed with those of `computed`.
unfoldable pub tabled : Unit {0}
unfolding lent_tally lent_words lent_sheet fed parties got wanted replies no_pairs script-empty script-null script-A script-B script-arithmetic script-nested script-order script-goto script-crossed script-procedure inside-blocks script-use script-pair script-formal script-highest script-own script-handed script-hidden script-negative script-padded ends-within ends_with of-A A-stopped B-spent spent-at refused-with all-wrong wrong-list not_listed pair-taken-out samples
tabled = tt
