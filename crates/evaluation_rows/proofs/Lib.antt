mod NewBoxes
