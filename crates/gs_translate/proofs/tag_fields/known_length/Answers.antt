use Rattle.std.proofs.Common.{◌≡◌, ◌∙◌, sym, Option, Some, None}
use Rattle.std.specs.Option.{option_or}
use Rattle.gs_prefix.specs.Lengths.{prefix_length}
use Rattle.gs_translate.specs.Targets.{digits_from_prefix}
use Rattle.gs_translate.proofs.tag_fields.known_length.Goals as goal

one_of_two : {X : Type 0} (a b last : Option X) (x : X) → option_or a b ≡ Some x → Some x ≡ option_or a (option_or b last)
one_of_two (Some y) b last x h = sym h
one_of_two None (Some y) last x h = sym h
one_of_two None None last x h = cc

none_of_two : {X : Type 0} (a b last : Option X) → option_or a b ≡ None → last ≡ option_or a (option_or b last)
none_of_two (Some y) b last h = cc
none_of_two None (Some y) last h = cc
none_of_two None None last h = cc

pub returns-in-Some : goal.returns-in-Some
returns-in-Some c =
    one_of_two c.args.meaning.now.gcp c.args.options.now.gcp (prefix_length c.args.prefixes.now (digits_from_prefix c.args.set.now c.args.kind c.args.meaning.now.identity.key.value)) c.in-Some.length
    (sym c.or.ensures ∙ c.in-Some.is)

pub returns-in-None : goal.returns-in-None
returns-in-None c =
    let known = rw (c.digits_from_prefix.ensures, c.as_bytes-value.ensures, c.key.ensures) at c.length_of.ensures.length in
    known ∙ none_of_two c.args.meaning.now.gcp c.args.options.now.gcp
    (prefix_length c.args.prefixes.now (digits_from_prefix c.args.set.now c.args.kind c.args.meaning.now.identity.key.value))
    (sym c.or.ensures ∙ c.in-None.is)
