use Rattle.std.proofs.Common.{◌≡◌, ◌∙◌, ◌+◌, ◌<◌, ◌++◌, ◌∷◌, [], ℕ, List, ap, sym, length, map, take, get_or}
use Rattle.std.proofs.lemmas.List.{take_more, map-append}
use Rattle.event_directory.specs.Stored.{StoredSubscription, all_standing, kept_in, standing_of_stored}
use Rattle.event_directory.proofs.image.images_of.Goals as goal

-- one subscription more, as it stands in this text
one_more : (text : List ℕ) (stored : List StoredSubscription) (i : ℕ) (s : StoredSubscription) → i < length stored → s ≡ get_or stored i s
    → all_standing text (take (i + 1) stored) ≡ all_standing text (take i stored) ++ kept_in text s.standing ∷ []
one_more text stored i s below is =
    ap (all_standing text) (take_more stored i s below ∙ ap (λ x. take i stored ++ x ∷ []) (sym is))
    ∙ (ap (map (kept_in text)) (map-append standing_of_stored (take i stored) (s ∷ []))
    ∙ map-append (kept_in text) (map standing_of_stored (take i stored)) (standing_of_stored s ∷ []))

pub loop-subscription-preserved : goal.loop-subscription-preserved
loop-subscription-preserved g c =
    let text = c.args.text.now in
    let stored = c.args.subscriptions.now in
    let i = c.loop-subscription.subscription-index in
    c.in_ok-push.ensures.items
    ∙ (ap (λ ks. ks ++ c.in_ok-image_of.field-0 ∷ []) c.loop-subscription.invariant
    ∙ (ap (λ k. all_standing text (take i stored) ++ k ∷ []) c.in_ok-image_of.ensures
    ∙ sym (one_more text stored i c.subscription-item.result c.loop-subscription-test.true c.subscription-item.is)))
