-- A group whose origin crashed, after one phase.
use Rattle.gb_types.specs.Common.{◌≡◌, ℕ, ◌<◌, ◌≤◌, ◌⊎◌, inl, inr, true, false, arith, [], ◌∷◌, ◌++◌, length, refl, sym, ap, ◌∙◌, subst, slice_get}
use Rattle.gb_types.specs.declared.{kind.Module.TheVariants.Lazy}
use Rattle.gb_types.specs.declared.version.Version.TheVariants as texts
use Rattle.gb_layer.specs.Common.{was_noticed}
use Rattle.gb_rules.specs.Common.{calls_of, known, is_gone}
use Rattle.gb_alone.specs.Common.{Group, nobody, alone, is_marked, IsLegal, log_of_member}
use Rattle.gb_alone.specs.declared.event.GroupEvent.TheVariants.{Took, Came}
use Rattle.gb_duties.specs.Delivery.{IsPhase, ArePhases, IsUp}
use Rattle.gb_duties.specs.Examples.{bounds, address, second, third, message, fifo, spec_of, at, opened, loss, relay, runs, log_in}
use Rattle.gb_duties.proofs.ExampleLemmas.{in_0, in_1, One, is_0, is_1, is_2, member, ready, group_open, open_all, comes, Leads, stop_here, and_then, join, length_one, notices}
use Rattle.gb_duties.proofs.CrashLemmas.{lead_loss, lazy_relays, silent, made, one_version, running, stopped, for_pair, only_one, group_lost, one_relayed, crash_one_relayed, two_relayed, crash_two_took}

lost : Leads nobody (opened (fifo Lazy) ++ loss) (group_lost (fifo Lazy))
lost = join nobody (group_open (fifo Lazy)) (group_lost (fifo Lazy)) (opened (fifo Lazy)) loss (open_all (fifo Lazy)) (lead_loss (fifo Lazy))

lead_relay : Leads (group_lost (fifo Lazy)) relay (crash_two_took (fifo Lazy))
unfolding calls_of known
lead_relay =
    and_then (group_lost (fifo Lazy)) (at second (Took third 1)) (one_relayed (fifo Lazy)) (at third (Came second 1) ∷ []) (crash_two_took (fifo Lazy)) (refl, omega arith, length_one ((one_relayed (fifo Lazy)).put 2) message lazy_relays.one) refl
    (and_then (crash_one_relayed (fifo Lazy)) (at third (Came second 1)) (two_relayed (fifo Lazy)) [] (crash_two_took (fifo Lazy)) (refl, omega arith, omega arith, refl)
    (comes (fifo Lazy) third second 1 (notices 2 Rattle.gb_duties.specs.Examples.first (ready (fifo Lazy))) refl (simp (in_0, in_1) refl) ((one_relayed (fifo Lazy)).put 2) (ap (λ xs. slice_get xs 0) lazy_relays.one)) (stop_here (crash_two_took (fifo Lazy))))

relayed : Leads nobody ((opened (fifo Lazy) ++ loss) ++ relay) (crash_two_took (fifo Lazy))
relayed = join nobody (group_lost (fifo Lazy)) (crash_two_took (fifo Lazy)) (opened (fifo Lazy) ++ loss) relay lost lead_relay

pub relay_legal : IsLegal bounds address ((opened (fifo Lazy) ++ loss) ++ relay)
relay_legal = relayed.legal

none_two : (group_lost (fifo Lazy) 2).put 1 ≡ []
unfolding calls_of known
none_two = simp in_1 refl

one_waits : (group_lost (fifo Lazy) 1).put 2 ≡ message ∷ []
one_waits = lazy_relays.one

pub relay_phase : IsPhase bounds address (opened (fifo Lazy) ++ loss) relay runs (spec_of (fifo Lazy))
unfolding calls_of known
relay_phase = record {
  came = for_pair (fifo Lazy)
      (λ a b. (place : ℕ) → 0 < place → place ≤ length ((alone bounds address (opened (fifo Lazy) ++ loss) a).put b) → is_marked place ((alone bounds address ((opened (fifo Lazy) ++ loss) ++ relay) b).come a) ≡ true)
      (λ place low high. subst (λ (g : Group). is_marked place ((g 2).come 1) ≡ true) (sym relayed.end)
      (only_one (λ k. is_marked k (1 ∷ []) ≡ true) (length ((alone bounds address (opened (fifo Lazy) ++ loss) 1).put 2)) (ap (λ (g : Group). length ((g 1).put 2)) lost.end ∙ ap length one_waits) refl place low high))
      (λ place low high. let none : length ((alone bounds address (opened (fifo Lazy) ++ loss) 2).put 1) ≡ 0 = ap (λ (g : Group). length ((g 2).put 1)) lost.end ∙ ap length none_two in absurd (omega (arith, low, high, none)));
}

pub relay_phases : ArePhases 1 bounds address (opened (fifo Lazy) ++ loss) relay runs (spec_of (fifo Lazy))
relay_phases = (relay, [], refl, relay_phase, tt)

pub relay_up : IsUp bounds address (opened (fifo Lazy) ++ loss) relay runs (spec_of (fifo Lazy))
unfolding calls_of known
relay_up = record {
  first = opened (fifo Lazy);
  next = loss;
  moment = refl;
  made = made (fifo Lazy);
  silent = silent (fifo Lazy);
  version = texts.One;
  versions = λ a inside. one_version a (member a inside);
  kept = λ a run_a. seen (λ (g : Group). is_gone (g a).phase ≡ false) (here a (running (fifo Lazy) a run_a));
  unnoticed = λ a b inside run_b. seen (λ (g : Group). was_noticed (calls_of (g a).told) b ≡ false) (fine a b (member a inside) (running (fifo Lazy) b run_b));
  noticed = λ waits a b run_a inside stop. subst (λ (g : Group). was_noticed (calls_of (g a).told) b ≡ true) (sym lost.end) (ap (λ z. was_noticed (calls_of (group_lost (fifo Lazy) a).told) z) (stopped b stop) ∙ crashed a (running (fifo Lazy) a run_a));
}
  where
    g : Group
    g = crash_two_took (fifo Lazy)

    seen : (P : Group → Type 0) → P (crash_two_took (fifo Lazy)) → P (alone bounds address ((opened (fifo Lazy) ++ loss) ++ relay))
    seen P = subst P (sym relayed.end)

    here : (a : ℕ) → ((a ≡ 1) ⊎ (a ≡ 2)) → is_gone (crash_two_took (fifo Lazy) a).phase ≡ false
    here a (inl e) = ap (λ z. is_gone (crash_two_took (fifo Lazy) z).phase) e
    here a (inr e) = ap (λ z. is_gone (crash_two_took (fifo Lazy) z).phase) e

    crashed : (a : ℕ) → ((a ≡ 1) ⊎ (a ≡ 2)) → was_noticed (calls_of (group_lost (fifo Lazy) a).told) 0 ≡ true
    crashed a (inl e) = ap (λ z. was_noticed (calls_of (group_lost (fifo Lazy) z).told) 0) e
    crashed a (inr e) = ap (λ z. was_noticed (calls_of (group_lost (fifo Lazy) z).told) 0) e

    fine : (a b : ℕ) → One a → ((b ≡ 1) ⊎ (b ≡ 2)) → was_noticed (calls_of (crash_two_took (fifo Lazy) a).told) b ≡ false
    fine a b (is_0 e) (inl f) = (λ i. was_noticed (calls_of (crash_two_took (fifo Lazy) (e i)).told) (f i))
    fine a b (is_0 e) (inr f) = (λ i. was_noticed (calls_of (crash_two_took (fifo Lazy) (e i)).told) (f i))
    fine a b (is_1 e) (inl f) = (λ i. was_noticed (calls_of (crash_two_took (fifo Lazy) (e i)).told) (f i))
    fine a b (is_1 e) (inr f) = (λ i. was_noticed (calls_of (crash_two_took (fifo Lazy) (e i)).told) (f i))
    fine a b (is_2 e) (inl f) = (λ i. was_noticed (calls_of (crash_two_took (fifo Lazy) (e i)).told) (f i))
    fine a b (is_2 e) (inr f) = (λ i. was_noticed (calls_of (crash_two_took (fifo Lazy) (e i)).told) (f i))

pub relay_before : log_in (fifo Lazy) loss 2 ≡ []
unfolding calls_of known
relay_before = ap (λ (g : Group). log_of_member 2 (g 2)) lost.end

pub relay_after : log_of_member 2 (alone bounds address ((opened (fifo Lazy) ++ loss) ++ relay) 2) ≡ message ∷ []
unfolding calls_of known
relay_after = ap (λ (g : Group). log_of_member 2 (g 2)) relayed.end
