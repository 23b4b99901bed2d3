use Rattle.std.proofs.Common.{map, sym, ap, ◌∙◌}
use Rattle.std.specs.Option.{option_map}
use Rattle.gs_linktext.proofs.ReadLemmas.{more_links}
use Rattle.gs_linktext.proofs.reader.add_link.Goals as goal

pub returns-clause-more : goal.returns-clause-more
returns-clause-more c =
    more_links c.args.link.now c.args.contexts.now.items c.push_types.new.contexts.items c.in-Some.anchor.now c.in_ok-href.href c.in_ok-attrs.attrs c.items-params.result.now _ c.items-params.ensures c.in_ok-href.ensures.value (sym c.first_value.ensures ∙ ap (λ o. option_map (λ value. value.now) o) c.in-Some.is) c.in_ok-attrs.ensures
    (ap (map (λ type. type.now)) c.as_slice-2.ensures.value ∙ c.in_ok-types.ensures) c.in_ok-push_types.ensures
