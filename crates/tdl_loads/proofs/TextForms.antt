-- The text form of a linkset that loads.
use Rattle.std.proofs.Common.{◌≡◌, ℕ, Bool, true, false, List, [], ◌∷◌, ◌++◌, None, map, position, refl, sym, ap, inl, inr}
use Rattle.std.specs.Prelude.{Ok, not}
use Rattle.std.specs.List.{flat_map, list_all}
use Rattle.gs_ai.specs.Tables.{is_empty}
use Rattle.gs_ai.specs.declared.row.AiRow.{AiRow}
use Rattle.gs_chars.proofs.TruthsAndLists.{and_first, and_second}
use Rattle.gs_links.specs.Loads.{has_link, load_answer}
use Rattle.gs_links.specs.declared.link.Link.{Link}
use Rattle.gs_links.proofs.SameLoads.{same_load}
use Rattle.gs_linkset.specs.LinkShapes.{is_context, links_of_document, links_of_relation}
use Rattle.gs_linkset.specs.declared.link_types.Context.{Context}
use Rattle.gs_linkset.specs.declared.link_types.Relation.{Relation}
use Rattle.gs_linkset.specs.declared.link_types.Target.{Target}
use Rattle.gs_linktext.specs.Contexts.{has_target, is_full}
use Rattle.gs_linktext.specs.ReadAnswers.{IsReadAs, HasReading}
use Rattle.gs_linktext.specs.Spelling.{cannot_spell, spelled}
use Rattle.gs_linktext.proofs.ShapedLemmas.{is_shape}
use Rattle.gs_linktext.proofs.SomeReading.{some_reading}
use Rattle.gs_linktext.proofs.SpellableRead.{all_spelled}
use Rattle.gs_linktext.proofs.SpelledText.{is_read, is_text, same_links}
use Rattle.gs_linktext_grammar.specs.Grammar.{is_some_part}
use Rattle.tdl_loads.specs.Loads.{JudgesText, read_as, store_verdict}
use Rattle.tdl_loads.specs.TextForms.{TextLoads}
use Rattle.std.proofs.lemmas.Bool.{and_from}

-- relations with a target each, and at least one, have a link
relations_linked : (anchor : List ℕ) (relations : List Relation) → is_some_part relations ≡ true → list_all has_target relations ≡ true
    → not (is_empty (flat_map (links_of_relation anchor) relations)) ≡ true
relations_linked anchor [] some full = absurd (let f : false ≡ true = some in cc)
relations_linked anchor (relation ∷ relations) some full = by relation.targets (and_first (has_target relation) (list_all has_target relations) full)
  where
    by : (targets : List Target) → is_some_part targets ≡ true
        → not (is_empty (map (λ target. (anchor, relation.name, target)) targets ++ flat_map (links_of_relation anchor) relations)) ≡ true
    by [] h = absurd (let f : false ≡ true = h in cc)
    by (target ∷ targets) h = refl

context_linked : (context : Context) → is_full context ≡ true → has_link context ≡ true
context_linked context h =
    relations_linked context.anchor context.relations (and_first (is_some_part context.relations) (list_all has_target context.relations) h)
    (and_second (is_some_part context.relations) (list_all has_target context.relations) h)

all_linked : (contexts : List Context) → list_all is_full contexts ≡ true → list_all has_link contexts ≡ true
all_linked [] h = refl
all_linked (context ∷ contexts) h =
    and_from (has_link context) (list_all has_link contexts) (context_linked context (and_first (is_full context) (list_all is_full contexts) h))
    (all_linked contexts (and_second (is_full context) (list_all is_full contexts) h))

module _ (ais : List AiRow) (voc : List ℕ) (doc : List Context) (links : List Link) (shaped : list_all is_context doc ≡ true)
    (none : position cannot_spell (links_of_document doc) ≡ None) (loads : load_answer ais voc doc ≡ Ok links) where
  reading_loads : (contexts : List Context) → IsReadAs (spelled doc) contexts → load_answer ais voc contexts ≡ Ok links
  reading_loads contexts read =
      same_load ais voc doc contexts links (sym (same_links doc contexts (is_text doc shaped none) read)) (all_linked contexts read.cut.full) loads

  reading : HasReading (spelled doc) → (contexts : List Context) × IsReadAs (spelled doc) contexts
  reading (inl found) = found
  reading (inr rejected) = absurd (rejected.1 (is_read doc rejected.0 (is_text doc shaped none) rejected.2))

  pub text_loads : TextLoads ais voc (spelled doc) links
  text_loads =
      let found = reading (some_reading (spelled doc)) in
      record { contexts = found.0; read = found.1; error_free = λ error rejected. is_read doc error (is_text doc shaped none) rejected; loads = reading_loads }

  pub text_judged_alike : (templates : Bool) → JudgesText templates ais voc (spelled doc) (store_verdict templates ais (Ok links))
  text_judged_alike templates =
      let found = reading (some_reading (spelled doc)) in
      read_as found.0 found.1 (ap (store_verdict templates ais) (sym (reading_loads found.0 found.1)))

pub text_loads_again : (ais : List AiRow) (voc bytes : List ℕ) (doc : List Context) (links : List Link) → IsReadAs bytes doc
    → load_answer ais voc doc ≡ Ok links → TextLoads ais voc (spelled doc) links
text_loads_again ais voc bytes doc links read loads = text_loads ais voc doc links (is_shape bytes doc read) (all_spelled bytes doc read) loads
