use Rattle.std.proofs.Common.{◌≡◌, ℕ, ◌+◌, ◌<◌, get_or, length, sym, ap, ◌∙◌, ap₂, subst, inl, inr, arith}
use Rattle.table_hash.specs.Hashes.{bucket, mark_of, mask_of, mark_at, mask_at}
use Rattle.table_filter.specs.Filter.{covers, Inserted}
use Rattle.table_filter.proofs.Filters.{put_in, suspected-own, grown-same, grown-put, fresh, insert-either, own-class}
use Rattle.table_filter.proofs.insert.Goals as goal

pub returns-then-is_covered : goal.returns-then-is_covered
returns-then-is_covered c =
    let done = c.requires.inserted in
    let ws = c.args.table.now in
    let marks = c.args.marks.now in
    let h = c.hash-h.ensures in
    let mask : c.mask_of-mask.result ≡ mask_at c.args.whole ws c.args.i = c.mask_of-mask.ensures ∙ ap mask_of h in
    let mark : c.mark_of.result ≡ mark_at c.args.whole ws c.args.i = c.mark_of.ensures.value ∙ ap mark_of h in
    let within : mark_at c.args.whole ws c.args.i < length marks = omega (arith, done.mark-words, mark, c.mark_of.ensures.upper_bound) in
    subst (Inserted c.args.whole ws c.args.classes c.args.class (c.args.i + 1) c.put.new.bits) (sym (c.put-then-is_covered.ensures ∙ ap₂ (put_in marks) mark mask))
    (rw c.put.ensures (insert-either done _ (grown-put done (mark_at c.args.whole ws c.args.i) (mask_at c.args.whole ws c.args.i))
    (λ m. let own = own-class c.args.whole ws c.args.classes c.args.class c.args.i h c.class_of.ensures m in
    (c.word_for-q.ensures.value own ∙ ap (bucket 28160) h, c.mask_for.ensures own ∙ mask))
    (λ m. inr (suspected-own c.args.whole ws marks c.args.i within))))

pub returns-else-is_covered : goal.returns-else-is_covered
returns-else-is_covered c =
    let done = c.requires.inserted in
    let ws = c.args.table.now in
    let h = c.hash-h.ensures in
    let mask : c.mask_of-mask.result ≡ mask_at c.args.whole ws c.args.i = c.mask_of-mask.ensures ∙ ap mask_of h in
    let own = own-class c.args.whole ws c.args.classes c.args.class c.args.i h c.class_of.ensures in
    let word = λ (m : _). c.word_for-q.ensures.value (own m) ∙ ap (bucket 28160) h in
    rw c.put.ensures (insert-either done _ (grown-same done) (λ m. (word m, c.mask_for.ensures (own m) ∙ mask))
    (λ m. inl (fresh done m (sym (c.is_covered.ensures ∙ ap₂ (λ (q k : ℕ). covers (get_or c.args.seen.now q 0) k) (word m) mask) ∙ c.if-is_covered.false))))
