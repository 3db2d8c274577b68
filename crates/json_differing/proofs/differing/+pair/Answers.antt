-- Each way through the loop is a step of the grammar's, over both texts.
use Rattle.std.proofs.Common.{◌≡◌, ◌∷◌, ◌++◌, ◌==◌, List, [], true, false, map, ap, ◌∙◌, arith, rules}
use Rattle.std.proofs.lemmas.Bool.Decides.{nat_tests}
use Rattle.json_spell.specs.declared.json.Json.{the_lemmas}
use Rattle.json_spell.specs.declared.json.Json.TheViews.{Members}
use Rattle.json_spell.specs.declared.json.Member.{Member}
use Rattle.json_spell.specs.Tree.{Tree, object}
use Rattle.json_spell.specs.View.{json_view, member_view, pairs_of}
use Rattle.json_differing.proofs.Readables.{more_has, next_has}
use Rattle.json_differing.proofs.Turning.{turns_closed, turns_more}
use Rattle.json_differing.proofs.differing.+pair.Goals as goal

pub pair_members-returns-then-byte-eq125-clause-found : goal.pair_members-returns-then-byte-eq125-clause-found
pair_members-returns-then-byte-eq125-clause-found t c has =
    let so_far = c.loop-news.invariant.turns has in
    let member = c.in_ok-paired.ensures.found (more_has c.args.levels c.loop-news.left.old.now so_far.1) in
    let paired = c.in_ok-paired.paired in
    let byte = c.in_ok-byte.byte in
    let inside = c.args.inside in
    let olds = c.loop-news.olds.items in
    let news = c.loop-news.news.items in
    let old_kept = c.into_bump_slice.result in
    let new_kept = c.into_bump_slice-then-byte-eq125.result in
    let no_separator : (byte == 0x2C) ≡ false = grind (arith, nat_tests, c.if-byte-eq125.true) in
    let is_close : (byte == 0x7D) ≡ true = grind (arith, nat_tests, c.if-byte-eq125.true) in
    let olds_are : c.push.new.self.items ≡ olds ++ paired.old ∷ [] = search rules in
    let news_are : c.push-in-loop-news.new.self.items ≡ news ++ paired.new ∷ [] = search rules in
    let gone : json_view (Members old_kept) ≡ object (pairs_of (map member_view old_kept.now)) = search (rules, the_lemmas) in
    let come : json_view (Members new_kept) ≡ object (pairs_of (map member_view new_kept.now)) = search (rules, the_lemmas) in
    let view : List Member → Tree = λ l. object (pairs_of (map member_view l)) in
    turns_closed c.args.depth c.args.levels inside c.loop-news.left olds news paired so_far.0 member byte _ c.in_ok-byte.ensures.next.0 c.in_ok-byte.ensures.next.1
    no_separator is_close (c.closes.ensures c.if-closes.false) (c.closes-else-closes.ensures c.if-closes-2.false)
    (gone ∙ ap view (c.into_bump_slice.ensures ∙ olds_are)) (come ∙ ap view (c.into_bump_slice-then-byte-eq125.ensures ∙ news_are))

pub pair_members-loop-news-preserved : goal.pair_members-loop-news-preserved
pair_members-loop-news-preserved t c =
    let paired = c.in_ok-paired.paired in
    let byte = c.in_ok-byte.byte in
    let olds = c.loop-news.olds.items in
    let news = c.loop-news.news.items in
    let is_separator : (byte == 0x2C) ≡ true = grind (arith, nat_tests, c.if-byte-ne44.false) in
    let olds_are : c.push.new.self.items ≡ olds ++ paired.old ∷ [] = search rules in
    let news_are : c.push-in-loop-news.new.self.items ≡ news ++ paired.new ∷ [] = search rules in
    record {
      turns = λ has.
          let so_far = c.loop-news.invariant.turns has in
          let member = c.in_ok-paired.ensures.found (more_has c.args.levels c.loop-news.left.old.now so_far.1) in (
            turns_more c.args.depth c.args.levels c.args.inside c.loop-news.left olds news paired so_far.0 member byte c.in_ok-byte.rests
                c.push.new.self.items c.push-in-loop-news.new.self.items c.in_ok-byte.ensures.next.0 c.in_ok-byte.ensures.next.1 is_separator olds_are news_are,
            next_has c.args.levels c.loop-news.left.old.now (member.name, member.old) paired.rests.old.now byte c.in_ok-byte.rests.old.now member.old_read c.in_ok-byte.ensures.next.0 is_separator so_far.1,
          );
      no_longer = search rules;
    }
