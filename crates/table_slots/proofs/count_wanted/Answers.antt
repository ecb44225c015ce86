use Rattle.std.proofs.Common.{sym, ◌∙◌}
use Rattle.laws.specs.Tests.{never}
use Rattle.table_slots.proofs.Passes.{wanted-key, not-suspected, other-class, same-class, good-skip}
use Rattle.table_slots.proofs.count_wanted.Goals as goal

pub returns-then-not-is_suspected-clause-good_2 : goal.returns-then-not-is_suspected-clause-good_2
returns-then-not-is_suspected-clause-good_2 c _ =
    let no = not-suspected _ _ c.args.classes c.args.class _ _ (sym c.is_suspected.ensures ∙ c.if-not-is_suspected.true) in
    good-skip (wanted-key _ _ _ _ _) c.requires.good (λ m. never m no)

pub returns-then-not-is_suspected-clause-table_bound : goal.returns-then-not-is_suspected-clause-table_bound
returns-then-not-is_suspected-clause-table_bound c _ m =
    never m (not-suspected _ _ c.args.classes c.args.class _ _ (sym c.is_suspected.ensures ∙ c.if-not-is_suspected.true))

pub returns-then-class_of-class-clause-good_2 : goal.returns-then-class_of-class-clause-good_2
returns-then-class_of-class-clause-good_2 c _ =
    let no = other-class _ _ _ _ _ _ (sym c.is_suspected.ensures ∙ c.if-not-is_suspected.false) c.hash-h.ensures c.class_of.ensures c.if-class_of-class.true in
    good-skip (wanted-key _ _ _ _ _) c.requires.good (λ m. never m no)

pub returns-then-class_of-class-clause-table_bound : goal.returns-then-class_of-class-clause-table_bound
returns-then-class_of-class-clause-table_bound c _ m =
    never m (other-class _ _ _ _ _ _ (sym c.is_suspected.ensures ∙ c.if-not-is_suspected.false) c.hash-h.ensures c.class_of.ensures c.if-class_of-class.true)

pub returns-clause-good_2 : goal.returns-clause-good_2
returns-clause-good_2 c e =
    let yes = same-class _ _ _ _ _ _ (sym c.is_suspected.ensures ∙ c.if-not-is_suspected.false) c.hash-h.ensures c.class_of.ensures c.if-class_of-class.false in
    (c.count_pair.ensures.counted e _ (wanted-key _ _ _ _ _) yes c.requires.good).0

pub returns-clause-table_bound : goal.returns-clause-table_bound
returns-clause-table_bound c e m = (c.count_pair.ensures.counted e _ (wanted-key _ _ _ _ _) m c.requires.good).1

pub returns-clause-limit_bound : goal.returns-clause-limit_bound
returns-clause-limit_bound c e =
    let yes = same-class _ _ _ _ _ _ (sym c.is_suspected.ensures ∙ c.if-not-is_suspected.false) c.hash-h.ensures c.class_of.ensures c.if-class_of-class.false in
    c.count_pair.ensures.too_many e _ (wanted-key _ _ _ _ _) yes c.requires.good
