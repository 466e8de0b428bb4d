mod Links
