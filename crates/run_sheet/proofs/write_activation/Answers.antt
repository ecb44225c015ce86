-- `write_activation` meets its contract.
use Rattle.std.proofs.Common.{ℕ, ◌+◌, ◌*◌, List, [], ◌∷◌, ◌++◌, ℤ, pos, append_assoc, sym, ap, ◌∙◌, subst, length-append, arith}
use Rattle.std.proofs.Math.ListN.{set, length-set}
use Rattle.language.specs.Call.{written}
use Rattle.resolved.specs.Layout.{formals_in, names_in}
use Rattle.run_sheet.specs.Shown.{Owned, heads}
use Rattle.run_sheet.proofs.Values.{read_back}
use Rattle.run_sheet.proofs.write_activation.Goals as goal

pub write_names-requires : goal.write_names-requires
write_names-requires c =
    let h = c.requires.2 in
    let names = c.names_of-names.ensures ∙ ap names_in c.code_at-head.ensures.0 ∙ h.names-are in
    let formals = sym (c.formals_of.ensures.0 ∙ ap formals_in c.code_at-head.ensures.0) in record {
      owned = (c.requires.1, subst (λ (n : ℕ). Owned c.args.cells.now c.args.first n c.requires.1) formals h.owned, sym names);
      count_in_bounds = simp length-set (omega (arith, names, c.requires.3));
    }

pub returns : goal.returns
returns c = record {
  by_index =
      λ number own ws base h e n.
      let names = c.names_of-names.ensures ∙ ap names_in c.code_at-head.ensures.0 ∙ h.names-are in
      let formals = sym (c.formals_of.ensures.0 ∙ ap formals_in c.code_at-head.ensures.0) in
      let a = read_back _ c.word_of.type_inv ∙ c.word_of.ensures in
      let b = read_back _ c.word_of-2.type_inv ∙ c.word_of-2.ensures ∙ ap pos (c.number_of.ensures.by_index number h.counts) in
      let d = read_back _ c.word_of-3.type_inv ∙ c.word_of-3.ensures in
      let at = c.args.at in (
        c.write_names.ensures.sheet_after own (ws ++ (pos (2 * c.args.block) ∷ pos number ∷ pos c.args.encloser ∷ [])) base
            (subst (λ (n : ℕ). Owned c.args.cells.now c.args.first n own) formals h.owned) (sym names)
            ((λ j. set (set (set c.args.sheet.now at (a j)) (at + 1) (b j)) (at + 2) (d j))
            ∙ heads ws base c.args.sheet.now at _ _ _ e n (omega (arith, c.requires.3)))
            (omega (arith, length-append ws (pos (2 * c.args.block) ∷ pos number ∷ pos c.args.encloser ∷ [])))
            ∙ ap (λ (x : List ℤ). written x base) (append_assoc ws _ own),
        ap (λ k. at + 3 + k) names,
      );
  sheet_len_unchanged = c.write_names.ensures.sheet_len_unchanged ∙ simp length-set;
}
