-- Merged stores.
use Rattle.std.proofs.Common.{◌≡◌, ◌++◌, ℕ, true, false, All, List, sym, ap, ◌∙◌}
use Rattle.std.specs.Prelude.{Ok, nat_lt}
use Rattle.std.proofs.lemmas.List.{append_assoc}
use Rattle.std.proofs.lemmas.List.Elements.{All-append, All-filter}
use Rattle.gs_ai.specs.Tables.{KeepsRules}
use Rattle.gs_ai.specs.declared.row.AiRow.{AiRow}
use Rattle.gs_linkset.specs.declared.link_types.Context.{Context}
use Rattle.gs_links.specs.Loads.{keeps_names, links_of, load_answer, targets_count}
use Rattle.gs_links.specs.Shapes.{most_links}
use Rattle.gs_links.specs.declared.link.Link.{Link}
use Rattle.gs_merge.specs.Distinct.{distinct}
use Rattle.gs_merge.specs.MergedDocuments.{is_too_many, merged, with_relation}
use Rattle.gs_merge.specs.Stores.{IsStore, LoadsForBoth, targets_at, targets_in}
use Rattle.gs_merge.proofs.KeptLinks.{IsKept, IsSettled, contexts_settled, links_are_those, loaded_targets, settled_load, store_kept}
use Rattle.gs_merge.proofs.TargetsAt.{merged_first, merged_last, one_merged}

module _ (table : List AiRow) (rules : KeepsRules table) (voc : List ℕ) (keeps : keeps_names voc ≡ true) where
  pub all_kept : (a : List Link) → IsStore table voc a → All (IsKept table voc) a
  all_kept a store = store_kept table rules voc keeps store.0 a store.1

  merged_settled : (a b : List Link) → IsStore table voc a → IsStore table voc b → All (IsSettled table voc) (merged a b)
  unfolding merged
  merged_settled a b store_a store_b =
      contexts_settled table voc (with_relation (a ++ b)) (All-filter _ (IsKept table voc) (a ++ b) (All-append (IsKept table voc) a b (all_kept a store_a) (all_kept b store_b)))

  pub merged_loads : (a b : List Link) → IsStore table voc a → IsStore table voc b → is_too_many (merged a b) ≡ false
      → load_answer table voc (merged a b) ≡ Ok (links_of table voc (merged a b))
  merged_loads a b store_a store_b few = settled_load table voc (merged a b) (merged_settled a b store_a store_b) few

  -- the merged store has the targets of the merged document
  pub merged_has : (a b m : List Link) → IsStore table voc a → IsStore table voc b → load_answer table voc (merged a b) ≡ Ok m
      → (text name : List ℕ) → targets_at m text name ≡ targets_in (merged a b) text name
  merged_has a b m store_a store_b h text name =
      ap (λ ls. targets_at ls text name) (sym (links_are_those table rules voc keeps (merged a b) m h)) ∙ loaded_targets table voc text name
      (merged a b) (merged_settled a b store_a store_b)

  pub either_first : (a b c ab bc : List Link) → IsStore table voc a → IsStore table voc b → IsStore table voc c
      → load_answer table voc (merged a b) ≡ Ok ab → load_answer table voc (merged b c) ≡ Ok bc → merged ab c ≡ merged a bc
  either_first a b c ab bc store_a store_b store_c first second =
      one_merged ab c a bc (λ text name other.
      merged_first a b ab c (λ t n o. merged_has a b ab store_a store_b first t n) text name other
      ∙ ap distinct (append_assoc (targets_at a text name) (targets_at b text name) (targets_at c text name))
      ∙ sym (merged_last a b c bc (λ t n o. merged_has b c bc store_b store_c second t n) text name other))

-- the document that is made loads
pub made_loads : (a b : List Link) (contexts doc : List Context) → contexts ≡ merged a b → doc ≡ contexts
    → false ≡ nat_lt most_links (targets_count contexts) → LoadsForBoth a b doc
made_loads a b contexts doc own made few = λ table voc rules keeps store_a store_b.
    let h : is_too_many (merged a b) ≡ false = rw own at (sym few) in
    rw (made, own) (merged_loads table rules voc keeps a b store_a store_b h)
