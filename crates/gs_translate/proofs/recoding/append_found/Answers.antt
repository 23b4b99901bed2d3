use Rattle.std.proofs.Common.{refl}
use Rattle.std.specs.Prelude.{Ok}
use Rattle.gs_ident.specs.Links.{canonical_link}
use Rattle.gs_translate.proofs.EpcTexts.{fits_at}
use Rattle.gs_translate.proofs.RecodingLaws.{translated}
use Rattle.gs_translate.proofs.recoding.append_found.Goals as goal

pub append_words-requires-clause-given : goal.append_words-requires-clause-given
append_words-requires-clause-given c =
    fits_at c.args.set.now c.args.from c.args.text.now c.in-Some.words c.ais.ensures.shaped (rw c.in-Some.is at c.requires.answer)

pub returns-in_ok-append_link-in-Canon-clause-written : goal.returns-in_ok-append_link-in-Canon-clause-written
returns-in_ok-append_link-in-Canon-clause-written c = λ prefixes.
    translated c.args.set.now prefixes c.args.options.now c.args.from c.args.to c.args.text.now c.in-Some.words c.args.out.now.items c.append_link.new.out.items (Ok (tt {0})) c.ais.ensures.shaped c.requires.short (rw c.in-Some.is at c.requires.answer) (rw c.in-Some.is at c.requires.of_set) (λ identity laid.
    let linked = rw c.as_bytes.ensures.value at (c.in_ok-append_link-in-Canon.ensures.written identity laid) in
    rw c.in-Canon.is (canonical_link identity, linked, refl))

pub returns-in_default : goal.returns-in_default
returns-in_default c = record {
  written = λ prefixes.
      translated c.args.set.now prefixes c.args.options.now c.args.from c.args.to c.args.text.now c.in-Some.words c.args.out.now.items c.append_words.new.out.items c.append_words.result c.ais.ensures.shaped c.requires.short (rw c.in-Some.is at c.requires.answer) (rw c.in-Some.is at c.requires.of_set) (c.append_words.ensures.written prefixes);
  begun = c.append_words.ensures.begun;
}
