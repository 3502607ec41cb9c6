use Rattle.gb_types.specs.Common.{◌∙◌, IfNone, IfSome, List, codes, subst}
use Rattle.clap.specs.Words.{Text, all_of, found_of, rows_of}
use Rattle.clap.proofs.WalkLemmas.{raw_values-rows}
use Rattle.gb_serve_words.specs.Limits.{HasLimits, IsLimitsOf}
use Rattle.gb_serve_words.proofs.NumberLemmas.{all_given, none_given}
use Rattle.gb_serve_words.proofs.limits.limits_given.Goals as goal

pub returns-in-None-clause-read : goal.returns-in-None-clause-read
returns-in-None-clause-read c =
    let f = found_of c.args.matches.now in
    let given = none_given c.get_strs.result (all_of (codes "tenant-limit") (rows_of f)) (c.get_strs.ensures ∙ raw_values-rows f (codes "tenant-limit")) c.in-None.is in
    subst (λ (texts : List Text). IfSome c.limits_of.result (IsLimitsOf texts)) given c.limits_of.ensures.read

pub returns-in-None-clause-none : goal.returns-in-None-clause-none
returns-in-None-clause-none c =
    let f = found_of c.args.matches.now in
    let given = none_given c.get_strs.result (all_of (codes "tenant-limit") (rows_of f)) (c.get_strs.ensures ∙ raw_values-rows f (codes "tenant-limit")) c.in-None.is in
    subst (λ (texts : List Text). IfNone c.limits_of.result (HasLimits texts → ⊥)) given c.limits_of.ensures.none

pub returns-in-Some-clause-read : goal.returns-in-Some-clause-read
returns-in-Some-clause-read c =
    let f = found_of c.args.matches.now in
    let given = all_given c.get_strs.result (all_of (codes "tenant-limit") (rows_of f)) (c.get_strs.ensures ∙ raw_values-rows f (codes "tenant-limit")) c.in-Some.texts c.in-Some.is in
    subst (λ (texts : List Text). IfSome c.limits_of-in-Some.result (IsLimitsOf texts)) given c.limits_of-in-Some.ensures.read

pub returns-in-Some-clause-none : goal.returns-in-Some-clause-none
returns-in-Some-clause-none c =
    let f = found_of c.args.matches.now in
    let given = all_given c.get_strs.result (all_of (codes "tenant-limit") (rows_of f)) (c.get_strs.ensures ∙ raw_values-rows f (codes "tenant-limit")) c.in-Some.texts c.in-Some.is in
    subst (λ (texts : List Text). IfNone c.limits_of-in-Some.result (HasLimits texts → ⊥)) given c.limits_of-in-Some.ensures.none
