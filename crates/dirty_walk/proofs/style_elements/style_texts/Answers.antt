use Rattle.std.proofs.Common.{◌++◌, ◌∙◌, ap, sym}
use Rattle.generated_texts.specs.StyleElements.{style_text_of}
use Rattle.generated_texts.proofs.StyleTexts.{style_texts-by_keys}
use Rattle.referring_elements.proofs.WalkLemmas.{fewer_left}
use Rattle.dirty_walk.proofs.WalkLemmas.{last_told, next_told}
use Rattle.dirty_walk.proofs.style_elements.style_texts.Goals as goal

pub walk-smaller : goal.walk-smaller
walk-smaller c = fewer_left c.args.arena.now.tree c.root-at.ensures.document.distinct c.walk.at c.walk.invariant.live c.in-Some.next (sym c.in-Some.ensures.link)

pub walk-preserved : goal.walk-preserved
walk-preserved c =
    let tree = c.args.arena.now.tree in
    record {
      live = c.in-Some.ensures.live;
      gathered = c.in_ok-put_style_text.ensures.ok
          ∙ ap (λ texts. texts ++ style_text_of tree c.walk.at) c.walk.invariant.gathered
          ∙ sym (next_told tree c.root-at.ensures.document.distinct c.walk.at c.walk.invariant.live (style_text_of tree) c.in-Some.next (sym c.in-Some.ensures.link));
    }

pub returns-in-None : goal.returns-in-None
returns-in-None c =
    let tree = c.args.arena.now.tree in
    record {
      texts = c.in_ok-put_style_text.ensures.ok
          ∙ ap (λ texts. texts ++ style_text_of tree c.walk.at) c.walk.invariant.gathered
          ∙ sym (last_told tree c.root-at.ensures.document.distinct c.walk.at c.walk.invariant.live (style_text_of tree) (sym c.in-None.ensures.link))
          ∙ sym (style_texts-by_keys tree c.root-at.ensures.document.distinct);
    }
