use Rattle.std.proofs.Common.{arith, sym}
use Rattle.std.proofs.lemmas.Grind.{common_steps}
use Rattle.std.proofs.lemmas.List.{drop_all}
use Rattle.gs_chars.proofs.TruthsAndLists.{read_at}
use Rattle.gs_grammar.specs.Words.{own_value}
use Rattle.gs_grammar_level.proofs.OwnWords.{no_value_at, literal_at, other_at}
use Rattle.gs_grammar_level.proofs.own_words.Words.value.Goals as goal

pub returns-in_default : goal.returns-in_default
returns-in_default c = rw (← c.self.view_is)
    (sym (no_value_at own_value c.self.inside.items.now c.self.inside.places.now c.self.inside.symbols.now c.args.number c.in_default.ensures.lookup.3))

pub returns-in-Lit : goal.returns-in-Lit
returns-in-Lit c =
    let at = read_at c.self.inside.items.now c.args.number c.in-Some.item.now c.in-Some.ensures.lookup.3.0 c.in-Some.ensures.lookup.1 in
    rw (← c.self.view_is) (sym (literal_at _ c.self.inside.places.now c.self.inside.symbols.now c.in-Lit.field-0 c.args.number _ at c.in-Lit.is))

pub returns-in-Some-get : goal.returns-in-Some-get
returns-in-Some-get c =
    let at = read_at c.self.inside.items.now c.args.number c.in-Some.item.now c.in-Some.ensures.lookup.3.0 c.in-Some.ensures.lookup.1 in
    rw (← c.self.view_is, c.word_at.ensures)
    (sym (other_at _ c.self.inside.places.now c.self.inside.symbols.now c.in-Some-get.ahead.now c.args.number _ at c.in_default-item.not-Lit (grind (arith, common_steps))))

pub returns-in-None : goal.returns-in-None
returns-in-None c =
    let at = read_at c.self.inside.items.now c.args.number c.in-Some.item.now c.in-Some.ensures.lookup.3.0 c.in-Some.ensures.lookup.1 in
    let none = drop_all c.args.number c.self.inside.places.now (grind arith) in
    rw (← c.self.view_is) (sym (other_at _ c.self.inside.places.now c.self.inside.symbols.now _ c.args.number _ at c.in_default-item.not-Lit (sym none)))
