-- Each member's measure is the bytes unread, eight for each, and among those at one place who calls whom (`Sizes`).
-- The loops: what is left to read goes on as the whole does; the names before the level are as they were.
use Rattle.std.proofs.Common.{◌≡◌, take}
use Rattle.language.specs.Structure.{block_with}
use Rattle.check_names.specs.Naming.{names_at}
use Rattle.check_blocks.specs.Progress.{base_of}
use Rattle.check_blocks.proofs.Sizes.{block_size, body_size, declarations_size, statement_size, statements_size}
use Rattle.check_blocks.proofs.Loops.{DeclsLeft, StmtsLeft}
use Rattle.check_blocks.proofs.+block_body_declarations_statement_statements.Given as goal

abbrev pub decreases-block : goal.decreases-block
decreases-block l = block_size l.script.now l.names.now l.at l.next l.d l.s l.held l.left

abbrev pub decreases-body : goal.decreases-body
decreases-body l = body_size l.script.now l.names.now l.mark l.start l.p l.below

abbrev pub decreases-declarations : goal.decreases-declarations
decreases-declarations l = declarations_size l.script.now l.names.now l.at l.d l.s l.held l.below

abbrev pub decreases-statement : goal.decreases-statement
decreases-statement l = statement_size l.script.now l.names.now l.mark l.at l.next l.f0 l.f1 l.below

abbrev pub decreases-statements : goal.decreases-statements
decreases-statements l = statements_size l.script.now l.names.now l.at l.s l.below

abbrev pub invariant-declarations-loop-i : goal.invariant-declarations-loop-i
invariant-declarations-loop-i l = record {
  same_script : l.reader.script.now ≡ l.script;
  kept : take l.base l.names ≡ take l.base l.initial.names;
  left :
      DeclsLeft (block_with l.below) l.s l.d (names_at l.initial.names l.base l.held) l.script l.at l.names l.base l.held l.reader.at l.i;
}

abbrev pub invariant-statements-loop : goal.invariant-statements-loop
invariant-statements-loop l = record {
  same_script : l.reader.script.now ≡ l.script;
  kept : take (base_of l.below) l.names ≡ take (base_of l.below) l.initial.names;
  left : StmtsLeft (block_with l.below) l.s l.script l.at l.reader.at l.counter;
}
