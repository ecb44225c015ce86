use Rattle.std.proofs.Common.{◌≡◌, ◌+◌, ◌∙◌, sym, ap, subst, ℕ, arith}
use borrow.Author.Count.{below_more}
use Rattle.laws.specs.Tests.{never}
use Rattle.table_filter.specs.Filter.{Has}
use Rattle.table_distinct.proofs.Numbers.{numbers-at}
use Rattle.table_distinct.proofs.Once.{each_once}
use Rattle.table_sieve.specs.Sieve.{cell_of, mask_of, mark_of, bit_of, set_in, hash_at, Sieved}
use Rattle.table_sieve.proofs.Sieving.{hash-is, fresh, sieved-new, sieved-suspected}
use Rattle.table_sieve.proofs.sieve.Goals.{then-insert, else-insert}
use Rattle.table_sieve.proofs.sieve.Goals as goal

pub hash_at-requires-clause-i_value : goal.hash_at-requires-clause-i_value
hash_at-requires-clause-i_value c = numbers-at _ c.args.count c.loop-i.i c.requires.count_in_bounds c.requires.table_value (omega arith)

pub loop-i-preserved : goal.loop-i-preserved
loop-i-preserved c =
    let ws = c.args.table.now in
    let i = c.loop-i.i in
    let seen = c.loop-i.seen in
    let marks = c.loop-i.marks in
    let done = c.loop-i.invariant.sieved in
    let hashed = hash-is ws i c.hash_at.ensures.value in
    let seen-now : c.insert.new.seen ≡ set_in seen (cell_of (hash_at ws i)) (mask_of (hash_at ws i)) =
    c.insert.ensures.seen_after ∙ ap (λ (h : ℕ). set_in seen (cell_of h) (mask_of h)) hashed in
    elim c.if-insert.branch [
      | then-insert w ↦
          let marks-now : c.insert.new.marks ≡ set_in marks (mark_of (hash_at ws i)) (bit_of (hash_at ws i)) =
          c.insert.ensures.marks_after w.if-insert.true ∙ ap (λ (h : ℕ). set_in marks (mark_of h) (bit_of h)) hashed in
          record {
            sieved = subst (λ (T : Type 0). T) (λ k. Sieved ws (i + 1) (sym seen-now k) (sym marks-now k)) (sieved-suspected done);
            few = λ e. never w.suspected-is e;
          }
      | else-insert w ↦
          let clear = subst (λ (h : ℕ). Has seen (cell_of h) (mask_of h) → ⊥) hashed (c.insert.ensures.fact w.if-insert.false) in
          let first = fresh done clear in
          let marks-now : c.insert.new.marks ≡ marks = c.insert.ensures.marks_unchanged w.if-insert.false in
          record {
            sieved = subst (λ (T : Type 0). T) (λ k. Sieved ws (i + 1) (sym seen-now k) (sym marks-now k)) (sieved-new done first);
            few = λ e. below_more _ _ (c.loop-i.invariant.few (sym w.suspected-is ∙ e)) first;
          }
    ]

pub returns-clause-table_value_2 : goal.returns-clause-table_value_2
returns-clause-table_value_2 c e = sym (each_once c.args.table.now c.args.count (λ j l. c.loop-i.invariant.few e j (omega arith)))
