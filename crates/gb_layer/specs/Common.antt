-- The names that files of crates above cite, passed on from one place. Declares nothing.
pub use Rattle.gb_layer.specs.BebLemmas.{beb_noticed_once, beb_sends_handed_in, beb_sent_once, beb_up_once, beb_ups_handed_in, fair_once, stays}
pub use Rattle.gb_layer.specs.BebMachine.{beb_gives}
pub use Rattle.gb_layer.specs.Counts.{cond_most, count_by-append, count_by-cons, count_by-grown, count_by-is_up, count_by-map, count_by-set}
pub use Rattle.gb_layer.specs.DirectLemmas.{direct_noticed_once, direct_sends_handed_in, direct_sent_once, direct_up_once, direct_ups_handed_in, own_pairs}
pub use Rattle.gb_layer.specs.EntryListLemmas.{any_keys, any_marked, has_mentioned, keys_noted, mark_count}
pub use Rattle.gb_layer.specs.Examples.{first, origin, other, second}
pub use Rattle.gb_layer.specs.FirstMentionLemmas.{first_mentions-any, first_mentions-mentioned, first_mentions-once, same_swap}
pub use Rattle.gb_layer.specs.Histories.{came_mentioned, mentions_stays, own_said, said_mentioned}
pub use Rattle.gb_layer.specs.Laws.{ComesFromItsOrigin, HandsUpEachOnce, HandsUpOnce, HandsUpWhatWasHandedIn, NoticesOnce, SendsOnce, SendsWhatWasHandedIn, StaysAtItsNode}
pub use Rattle.gb_layer.specs.Limit.{Limit, is_counted, message_count}
pub use Rattle.gb_layer.specs.Lists.{all_append, all_weaker, any_push, any_weaker, filter-never, list_all_weaker, map_same, same_filter}
pub use Rattle.gb_layer.specs.Machine.{Gives, IsFair, after, all_sends, all_ups, came_from, count_sends, is_of, is_up, mentions, messages, nothing, numbers, own_gives, was_noticed, was_said}
pub use Rattle.gb_layer.specs.Modules.{IsLawful, broadcasts, delivers, first_mentions, holds, is_broadcast, is_delivered, log, newest, newly, now_broadcast, now_delivered}
pub use Rattle.gb_layer.specs.Numbered.{is_in, numbered}
pub use Rattle.gb_layer.specs.Paired.{paired}
pub use Rattle.gb_layer.specs.PairedLemmas.{alone, apart, changed_beyond, changed_there, first_there, found_beyond, found_nowhere, found_there, length-paired, paired_get, paired_grows, paired_nothing, paired_push, paired_set, paired_within}
pub use Rattle.gb_layer.specs.PlacedCalls.{IsNext, MayTake, Names, all_differ, message_at, no_message, reached, told, told_after}
pub use Rattle.gb_layer.specs.Relay.{State, at_start, relay_gives, relay_next}
pub use Rattle.gb_layer.specs.RelayColumn.{RelayKnows, relay_grows}
pub use Rattle.gb_layer.specs.RelayLemmas.{relay_me_stays, relay_noticed_once, relay_own}
pub use Rattle.gb_layer.specs.RelayOnceLemmas.{relay_sends_handed_in, relay_sent_once, relay_up_once, relay_ups_handed_in}
pub use Rattle.gb_layer.specs.Rule.{BroadcastsAs, BroadcastsItsOwn, BroadcastsMore, DeliversAs, DeliversMore, Nodes, Rules, holders_in, noticed_in}
pub use Rattle.gb_layer.specs.Sinks.{SplitsRoom, folded, one_up, ups_alone}
