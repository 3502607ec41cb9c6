use Rattle.gb_types.specs.Common.{◌≡◌, ◌∙◌, ap, List, refl, sym, subst, map, true, rules, inl, inr}
use Rattle.clap.specs.Words.{App, Row, fault_of, is_simple, is_simple_and_free, matches_of, takes}
use Rattle.clap.specs.Kinds.{HasKind, Kinds}
use Rattle.clap.proofs.OnLiterals.{clap_on_literals}
use Rattle.std.proofs.lemmas.Result.{IfOk-weaker}
use Rattle.gb_serve_words.specs.declared.fault.WordFault.TheVariants.{Refused}
use Rattle.gb_door.specs.Words.{CanServe, IsReadOf, web_app}
use Rattle.gb_door.proofs.EntryLemmas.{given_by}
use Rattle.gb_door.proofs.words.read_words.Goals as goal

is_free : is_simple_and_free web_app ≡ true
unfolding clap_on_literals
is_free = refl

is_read : is_simple web_app ≡ true
unfolding clap_on_literals
is_read = refl

pub words_of-requires : goal.words_of-requires
words_of-requires c = given_by c.in_ok-command.command c.in-Ok.matches c.in-Ok.ensures.parsed c.in_ok-command.ensures

pub returns-in-Ok-clause-given : goal.returns-in-Ok-clause-given
returns-in-Ok-clause-given c =
    let read = (c.in-Ok.ensures.matches (ap is_simple c.in_ok-command.ensures ∙ is_read)).0
    ∙ ap (λ (a : App). matches_of a (map (λ word. word.now) c.args.words.now)) c.in_ok-command.ensures in
    IfOk-weaker c.words_of.result _ _ (λ w is. subst (λ (rows : List Row). IsReadOf rows w) read is) c.words_of.ensures.read

pub returns-in-Ok-clause-accepted : goal.returns-in-Ok-clause-accepted
returns-in-Ok-clause-accepted c =
    let none = ap (λ (a : App). fault_of a (map (λ word. word.now) c.args.words.now)) (sym c.in_ok-command.ensures)
    ∙ c.in-Ok.ensures.kinds (ap is_simple_and_free c.in_ok-command.ensures ∙ is_free) in
    IfOk-weaker c.words_of.result _ _ (λ _ _. none) c.words_of.ensures.read

pub returns-in-Ok-clause-refused : goal.returns-in-Ok-clause-refused
returns-in-Ok-clause-refused c = λ is.
    let read = (c.in-Ok.ensures.matches (ap is_simple c.in_ok-command.ensures ∙ is_read)).0
    ∙ ap (λ (a : App). matches_of a (map (λ word. word.now) c.args.words.now)) c.in_ok-command.ensures in
    inr (subst (λ (rows : List Row). CanServe rows → ⊥) read (c.words_of.ensures.refused is))

pub returns-in-Ok-clause-taken : goal.returns-in-Ok-clause-taken
returns-in-Ok-clause-taken c = λ _ can is.
    let read = (c.in-Ok.ensures.matches (ap is_simple c.in_ok-command.ensures ∙ is_read)).0
    ∙ ap (λ (a : App). matches_of a (map (λ word. word.now) c.args.words.now)) c.in_ok-command.ensures in
    subst (λ (rows : List Row). CanServe rows → ⊥) read (c.words_of.ensures.refused is) can

pub returns-in-Err-clause-refused : goal.returns-in-Err-clause-refused
returns-in-Err-clause-refused c = λ is. inl (λ none.
    let refused : c.fault_from.result ≡ Refused = search rules in
    let kinds = subst (λ (ks : Kinds). HasKind ks c.in-Err.error) (ap (λ (a : App). fault_of a (map (λ word. word.now) c.args.words.now)) c.in_ok-command.ensures ∙ none)
    (c.in-Err.ensures.kinds (ap is_simple_and_free c.in_ok-command.ensures ∙ is_free)) in
    elim kinds [ inl memory ↦ c.fault_from.ensures.refused refused memory | inr other ↦ other ])

pub returns-in-Err-clause-taken : goal.returns-in-Err-clause-taken
returns-in-Err-clause-taken c = λ taken _ is.
    let refused : c.fault_from.result ≡ Refused = search rules in
    c.fault_from.ensures.refused refused
    (c.in-Err.ensures.passes (ap (λ (a : App). takes a (map (λ word. word.now) c.args.words.now)) c.in_ok-command.ensures ∙ taken))
