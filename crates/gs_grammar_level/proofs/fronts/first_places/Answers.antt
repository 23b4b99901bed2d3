use Rattle.gs_grammar.proofs.Cuts.{first_item, other_items}
use Rattle.gs_grammar_level.proofs.FrontLemmas.{places_start, places_step, have_places}
use Rattle.gs_grammar_level.proofs.fronts.first_places.Goals as goal

pub loop-item-init : goal.loop-item-init
loop-item-init c = record { items = c.requires; places = places_start _ _ c.new-places.ensures.items }

pub loop-item-preserved : goal.loop-item-preserved
loop-item-preserved c =
    let item = first_item _ _ _ c.in-Some.ensures.cases.0 c.loop-item.invariant.items in
    record {
      items = other_items _ _ _ c.in-Some.ensures.cases.0 c.loop-item.invariant.items;
      places = places_step _ _ _ _ _ _ _ c.loop-item.invariant.places c.in-Some.ensures.cases.0 item c.size-size.ensures.size
          (c.has_one_length.ensures.0 c.if-not-has_one_length.false) c.in_ok-add_item.ensures;
    }

pub returns : goal.returns
returns c = have_places _ _ _ _ c.loop-item.invariant.places c.from_vec.ensures
